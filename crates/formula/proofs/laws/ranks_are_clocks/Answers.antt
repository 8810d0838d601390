use Rattle.formula.proofs.Ranks as ranks
use Rattle.formula.proofs.laws.ranks_are_clocks.Goals as goal

pub returns : goal.returns
returns c = ranks.ranks_are_clocks
