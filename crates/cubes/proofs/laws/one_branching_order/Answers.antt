use Rattle.cubes.proofs.Orders.{one_order}
use Rattle.cubes.proofs.laws.one_branching_order.Goals as goal

pub returns : goal.returns
returns c = one_order
