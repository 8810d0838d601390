use Rattle.formula_from_run.proofs.Takers as takers
use Rattle.formula_from_run.proofs.laws.takers_do_not_overtake.Goals as goal

pub returns : goal.returns
returns c = takers.takers_do_not_overtake
