use Rattle.formula_from_run.proofs.IssueOrder as issueorder
use Rattle.formula_from_run.proofs.laws.calls_are_issued_in_order.Goals as goal

pub returns : goal.returns
returns c = issueorder.calls_are_issued_in_order
