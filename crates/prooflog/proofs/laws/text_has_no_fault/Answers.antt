use Rattle.prooflog.proofs.Exact as exact
use Rattle.prooflog.proofs.laws.text_has_no_fault.Goals as goal

pub returns : goal.returns
returns c = exact.text_has_no_fault
