use Rattle.steal.specs.Seats.{IsSameThief}
use Rattle.test_workers.proofs.deques.rob.Given as goal

abbrev pub invariant-loop : goal.invariant-loop
invariant-loop l = IsSameThief l.initial.thief l.thief
