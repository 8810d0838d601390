use Rattle.formula_from_run.proofs.Assignments as assignments
use Rattle.formula_from_run.proofs.laws.unsatisfiable_have_no_stuck_run.Goals as goal

pub returns : goal.returns
returns c = assignments.unsatisfiable_have_no_stuck_run
