use Rattle.std.proofs.Common.{◌∙◌, arith}
use Rattle.choices.proofs.Ways.{hangs_so, never_more, never_any}
use Rattle.choices.proofs.weighing.others_of.Goals as goal

pub returns-then-is_hanging : goal.returns-then-is_hanging
returns-then-is_hanging g c =
    hangs_so c.args.text.now c.args.program.now c.args.choice.now _ c.in_ok-way.way (c.is_hanging.ensures c.if-is_hanging.true) c.in_ok-way.ensures

pub loop-other-init : goal.loop-other-init
loop-other-init g c =
    record {
      some = λ known none. c.has_some-known.ensures known (c.deref.ensures.value ∙ none);
      never = λ known k d below. absurd (omega (arith, below));
    }

pub loop-other-preserved : goal.loop-other-preserved
loop-other-preserved g c =
    record {
      some = λ known. c.loop-other.invariant.some (c.is_known-known.ensures known).0;
      never = λ known.
          let both = c.is_known-known.ensures known in
          never_more c.args.text.now c.args.program.now c.args.choice.now c.deref-other-items.result.now c.args.choice.now.others.items c.loop-other.other-index _ c.in_ok-way.way (omega arith)
          c.deref-other-items.ensures.value both.1 c.in_ok-way.ensures (c.loop-other.invariant.never both.0);
    }

pub returns-then-known : goal.returns-then-known
returns-then-known g c =
    record {
      some = c.loop-other.invariant.some c.if-known.true;
      never = never_any c.args.text.now c.args.program.now c.args.choice.now c.args.choice.now.others.items c.loop-other.other-index (omega arith) (omega arith) (c.loop-other.invariant.never c.if-known.true);
    }
