use Rattle.run_laws.proofs.Matched as matched
use Rattle.run_laws.proofs.laws.earlier_sends_match_first.Goals as goal

pub returns : goal.returns
returns c = matched.earlier_sends_match_first
