use Rattle.steal.specs.Supplies.{AreSupplies}
use Rattle.test_workers.proofs.deques.the_last_one_takes_all.Given as goal

abbrev pub invariant-loop-cube : goal.invariant-loop-cube
invariant-loop-cube g l = AreSupplies l.supplies.items

abbrev pub invariant-loop-worker : goal.invariant-loop-worker
invariant-loop-worker g l = AreSupplies l.supplies.items
