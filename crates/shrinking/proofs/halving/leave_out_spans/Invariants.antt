use Rattle.shrinking.specs.Shrinking.{IsShrunkLong}
use Rattle.shrinking.proofs.halving.leave_out_spans.Given as goal

abbrev pub invariant-loop-question : goal.invariant-loop-question
invariant-loop-question l = IsShrunkLong l.initial.best.excerpt.text.items l.best.excerpt.text.items
