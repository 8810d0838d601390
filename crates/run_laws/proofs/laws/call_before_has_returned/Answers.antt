use Rattle.run_laws.proofs.Issued as issued
use Rattle.run_laws.proofs.laws.call_before_has_returned.Goals as goal

pub returns : goal.returns
returns c = issued.call_before_has_returned
