use Rattle.shrinking.specs.Shrinking.{IsShrunk}
use Rattle.shrinking.proofs.driving.leave_out_units.Given as goal

abbrev pub invariant-loop-question : goal.invariant-loop-question
invariant-loop-question l = IsShrunk l.initial.best.text.items l.best.text.items
