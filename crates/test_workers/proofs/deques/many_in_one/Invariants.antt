use Rattle.steal.specs.Supplies.{AreSupplies}
use Rattle.test_workers.proofs.deques.many_in_one.Given as goal

abbrev pub invariant-loop-cube : goal.invariant-loop-cube
invariant-loop-cube g l = AreSupplies l.supplies.items
