use Rattle.leastrun.proofs.Waitings.{ArePosted}
use Rattle.leastrun.proofs.tables.Tables.of.Given as goal

abbrev pub invariant-loop-place : goal.invariant-loop-place
invariant-loop-place l = ArePosted l.program l.state l.calls l.place l.tables
