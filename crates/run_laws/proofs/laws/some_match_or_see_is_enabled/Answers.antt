use Rattle.run_laws.proofs.Descent as descent
use Rattle.run_laws.proofs.laws.some_match_or_see_is_enabled.Goals as goal

pub returns : goal.returns
returns c = descent.some_match_or_see_is_enabled
