use Rattle.finishing.proofs.Satisfied as satisfied
use Rattle.finishing.proofs.laws.finished_runs_satisfy_formula.Goals as goal

pub returns : goal.returns
returns c = satisfied.finished_runs_satisfy_formula
