use Rattle.steal.proofs.Supplies as supplies
use Rattle.steal.proofs.supply.supplies_stay.Goals as goal

pub returns : goal.returns
returns c = supplies.supplies_stay
