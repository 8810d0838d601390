use Rattle.formula.proofs.Numbers as numbers
use Rattle.formula.proofs.laws.numbers_of_order.Goals as goal

pub returns : goal.returns
returns c = numbers.numbers_of_order
