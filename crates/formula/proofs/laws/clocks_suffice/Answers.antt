use Rattle.formula.proofs.Clocks as clocks
use Rattle.formula.proofs.laws.clocks_suffice.Goals as goal

pub returns : goal.returns
returns c = clocks.clocks_suffice
