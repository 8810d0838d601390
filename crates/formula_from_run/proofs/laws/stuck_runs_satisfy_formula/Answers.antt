use Rattle.formula_from_run.proofs.Assignments as assignments
use Rattle.formula_from_run.proofs.laws.stuck_runs_satisfy_formula.Goals as goal

pub returns : goal.returns
returns c = assignments.stuck_runs_satisfy_formula
