use Rattle.run_laws.proofs.Matched as matched
use Rattle.run_laws.proofs.laws.found_once.Goals as goal

pub returns : goal.returns
returns c = matched.found_once
