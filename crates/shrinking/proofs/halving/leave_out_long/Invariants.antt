use Rattle.shrinking.specs.Shrinking.{IsShrunkLong}
use Rattle.shrinking.proofs.halving.leave_out_long.Given as goal

abbrev pub invariant-loop-turn : goal.invariant-loop-turn
invariant-loop-turn l = IsShrunkLong l.fn.best.excerpt.text.items l.best.excerpt.text.items
