use Rattle.run_laws.proofs.Descent as descent
use Rattle.run_laws.proofs.laws.some_find_is_possible.Goals as goal

pub returns : goal.returns
returns c = descent.some_find_is_possible
