use Rattle.steal.proofs.Supplies.{AreSupplies-set}
use Rattle.test_workers.proofs.deques.put.Goals as goal

pub returns : goal.returns
returns c = AreSupplies-set c.args.supplies.now c.args.worker c.index-supplies-worker.result c.put.new.self c.put.ensures.same.0 c.requires.dealt
