use Rattle.phase_checker.proofs.Reaches.{IsReachTo}
use Rattle.phase_checker.proofs.early.reach.Given as goal

abbrev pub invariant-loop-entry : goal.invariant-loop-entry
invariant-loop-entry l = IsReachTo l.senders l.list l.reach l.entry-index
