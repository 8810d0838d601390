use Rattle.phase_checker.proofs.Reaches.{AreReachesTo}
use Rattle.phase_checker.proofs.early.reaches_of.Given as goal

abbrev pub invariant-loop-list : goal.invariant-loop-list
invariant-loop-list l = AreReachesTo l.senders l.ends l.reaches.items l.list-index
