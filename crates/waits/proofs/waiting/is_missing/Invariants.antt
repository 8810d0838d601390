use Rattle.waits.proofs.NeededRanks.{NoneFits}
use Rattle.waits.proofs.waiting.is_missing.Given as goal

abbrev pub invariant-loop-place : goal.invariant-loop-place
invariant-loop-place l = NoneFits l.program l.operation l.rank l.next l.place
