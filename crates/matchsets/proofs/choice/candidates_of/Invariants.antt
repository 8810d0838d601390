use Rattle.std.proofs.Common.{◌≤◌}
use Rattle.matchsets.proofs.choice.candidates_of.Given as goal

abbrev pub invariant-loop-place : goal.invariant-loop-place
invariant-loop-place l = (l.count ≤ l.place-index) × (l.jumps ≤ l.count)
