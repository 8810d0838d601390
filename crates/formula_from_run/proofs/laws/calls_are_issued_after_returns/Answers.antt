use Rattle.formula_from_run.proofs.AfterReturns as afterreturns
use Rattle.formula_from_run.proofs.laws.calls_are_issued_after_returns.Goals as goal

pub returns : goal.returns
returns c = afterreturns.calls_are_issued_after_returns
