use Rattle.formula.proofs.Clocks as clocks
use Rattle.formula.proofs.laws.order_gives_clocks.Goals as goal

pub returns : goal.returns
returns c = clocks.order_gives_clocks
