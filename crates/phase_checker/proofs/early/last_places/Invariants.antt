use Rattle.phase_checker.proofs.Tables.{IsLastTo}
use Rattle.phase_checker.proofs.early.last_places.Given as goal

abbrev pub invariant-loop-place : goal.invariant-loop-place
invariant-loop-place l = IsLastTo l.count l.order l.last.items l.place
