use Rattle.shrinking.specs.Shrinking.{IsShrunk}
use Rattle.shrinking.proofs.driving.leave_out_turns.Given as goal

abbrev pub invariant-loop-turn : goal.invariant-loop-turn
invariant-loop-turn l = IsShrunk l.fn.best.text.items l.best.text.items
