use Rattle.sealing.specs.parts.Ends.{AreLooseBelow}
use Rattle.sealing.proofs.ends.loose_ends.Given as goal

abbrev pub invariant-loop-place : goal.invariant-loop-place
invariant-loop-place l = AreLooseBelow l.program l.place l.loose.items
