use Rattle.formula_from_run.proofs.Starts as starts
use Rattle.formula_from_run.proofs.laws.no_issue_waits.Goals as goal

pub returns : goal.returns
returns c = starts.no_issue_waits
