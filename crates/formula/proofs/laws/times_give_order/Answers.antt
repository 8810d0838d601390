use Rattle.formula.proofs.Times as times
use Rattle.formula.proofs.laws.times_give_order.Goals as goal

pub returns : goal.returns
returns c = times.times_give_order
