use Rattle.run_laws.proofs.Issued as issued
use Rattle.run_laws.proofs.laws.blocking_takers_match_first.Goals as goal

pub returns : goal.returns
returns c = issued.blocking_takers_match_first
