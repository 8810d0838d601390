use Rattle.waits.specs.parts.Searches.{AreOff}
use Rattle.waits.proofs.cycles.onward.Given as goal

abbrev pub invariant-loop-place : goal.invariant-loop-place
invariant-loop-place l = AreOff l.edges l.marks l.rank l.from l.place
