use Rattle.run_laws.proofs.Issued as issued
use Rattle.run_laws.proofs.laws.earlier_calls_issue_first.Goals as goal

pub returns : goal.returns
returns c = issued.earlier_calls_issue_first
