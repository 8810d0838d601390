use Rattle.shrinking.specs.Shrinking.{IsShrunk}
use Rattle.shrinking.proofs.driving.leave_out_ranks.Given as goal

abbrev pub invariant-loop-place : goal.invariant-loop-place
invariant-loop-place l = IsShrunk l.initial.best.text.items l.best.text.items
