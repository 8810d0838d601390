use Rattle.steal.specs.Seats.{IsSameOwner}
use Rattle.test_workers.proofs.deques.work.Given as goal

abbrev pub invariant-loop-cube : goal.invariant-loop-cube
invariant-loop-cube l = IsSameOwner l.initial.owner l.owner
