use Rattle.phase_checker.proofs.Reaches.{AreEmptyTo}
use Rattle.phase_checker.proofs.early.are_empty.Given as goal

abbrev pub invariant-loop-list : goal.invariant-loop-list
invariant-loop-list l = AreEmptyTo l.ends l.list-index
