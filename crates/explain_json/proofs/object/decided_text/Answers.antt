use Rattle.std.proofs.Common.{arith}
use Rattle.explain_json.proofs.Decided.{decided_all, decided_more}
use Rattle.explain_json.proofs.object.decided_text.Goals as goal

pub loop-place-preserved : goal.loop-place-preserved
loop-place-preserved c =
    decided_more (λ d. d.verdict.now) c.args.deciders.now c.loop-place.place _ _ c.loop-place.out.items c.put_decided.new.out.items (omega arith) c.loop-place.invariant c.in_ok-put_decided.ensures

pub returns : goal.returns
returns c = decided_all (λ d. d.verdict.now) c.args.deciders.now c.loop-place.place c.loop-place.out.items (omega arith) (omega arith) c.loop-place.invariant
