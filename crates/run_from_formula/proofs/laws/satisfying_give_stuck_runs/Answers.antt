use Rattle.run_from_formula.proofs.Assignments as assignments
use Rattle.run_from_formula.proofs.laws.satisfying_give_stuck_runs.Goals as goal

pub returns : goal.returns
returns c = assignments.satisfying_give_stuck_runs
