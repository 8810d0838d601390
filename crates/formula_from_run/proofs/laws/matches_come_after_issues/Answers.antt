use Rattle.formula_from_run.proofs.Matches as matches
use Rattle.formula_from_run.proofs.laws.matches_come_after_issues.Goals as goal

pub returns : goal.returns
returns c = matches.matches_come_after_issues
