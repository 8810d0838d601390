use Rattle.std.proofs.Common.{◌≡◌, ◌+◌, Bool, true, false, not, ap, sym, ◌∙◌, arith}
use Rattle.workers.specs.parts.Branching.{is_decided, is_free}
use Rattle.workers.proofs.FirstFree.{found_later}
use Rattle.workers.proofs.branching.first_below.Goals as goal

pub loop-place-preserved : goal.loop-place-preserved
loop-place-preserved c =
    let fails : is_free c.args.path.now (c.loop-place.place + 1) ≡ false = ap not (sym c.is_decided.ensures ∙ c.if-not-is_decided.false) in
    found_later (is_free c.args.path.now) c.loop-place.place c.args.count (omega arith) fails c.loop-place.invariant
