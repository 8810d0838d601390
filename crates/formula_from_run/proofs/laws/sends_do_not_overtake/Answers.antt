use Rattle.formula_from_run.proofs.Matches as matches
use Rattle.formula_from_run.proofs.laws.sends_do_not_overtake.Goals as goal

pub returns : goal.returns
returns c = matches.sends_do_not_overtake
