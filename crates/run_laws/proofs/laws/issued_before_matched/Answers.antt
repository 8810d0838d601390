use Rattle.run_laws.proofs.Issued as issued
use Rattle.run_laws.proofs.laws.issued_before_matched.Goals as goal

pub returns : goal.returns
returns c = issued.issued_before_matched
