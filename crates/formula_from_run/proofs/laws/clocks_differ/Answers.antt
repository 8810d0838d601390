use Rattle.formula_from_run.proofs.Orders as orders
use Rattle.formula_from_run.proofs.laws.clocks_differ.Goals as goal

pub returns : goal.returns
returns c = orders.clocks_differ
