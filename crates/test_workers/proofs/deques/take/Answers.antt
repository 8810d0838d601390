use Rattle.steal.proofs.Supplies.{AreSupplies-set}
use Rattle.test_workers.proofs.deques.take.Goals as goal

pub returns : goal.returns
returns c = AreSupplies-set c.args.supplies.now c.args.worker c.index-supplies-worker.result c.take.new.self c.take.ensures.same.0 c.requires.dealt
