use Rattle.formula_from_run.proofs.Matches as matches
use Rattle.formula_from_run.proofs.laws.no_pair_waits.Goals as goal

pub returns : goal.returns
returns c = matches.no_pair_waits
