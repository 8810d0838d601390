use Rattle.checker.proofs.OneVerdicts as verdicts
use Rattle.checker.proofs.laws.one_verdict.Goals as goal

pub returns : goal.returns
returns c = verdicts.one_verdict
