use Rattle.run_from_formula.proofs.Assignments as assignments
use Rattle.run_from_formula.proofs.laws.satisfiable_where_stuck.Goals as goal

pub returns : goal.returns
returns c = assignments.satisfiable_where_stuck
