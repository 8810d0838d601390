use Rattle.prooflog.proofs.Exact as exact
use Rattle.prooflog.proofs.laws.one_value.Goals as goal

pub returns : goal.returns
returns c = exact.one_value
