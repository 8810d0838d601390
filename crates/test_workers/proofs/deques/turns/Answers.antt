use Rattle.steal.proofs.Supplies.{IsSameSupply-refl, IsSameSupply-trans}
use Rattle.test_workers.proofs.deques.turns.Goals as goal

pub loop-cube-init : goal.loop-cube-init
loop-cube-init c = IsSameSupply-refl c.args.supply

pub loop-cube-preserved : goal.loop-cube-preserved
loop-cube-preserved c = IsSameSupply-trans c.args.supply c.loop-cube.supply c.put.new.self c.loop-cube.invariant c.put.ensures.same.0

pub loop-preserved : goal.loop-preserved
loop-preserved c = IsSameSupply-trans c.args.supply c.loop.supply c.take.new.self c.loop.invariant c.take.ensures.same.0
