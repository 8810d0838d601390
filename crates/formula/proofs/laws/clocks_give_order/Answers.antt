use Rattle.formula.proofs.Clocks as clocks
use Rattle.formula.proofs.laws.clocks_give_order.Goals as goal

pub returns : goal.returns
returns c = clocks.clocks_give_order
