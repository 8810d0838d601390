use Rattle.run_from_formula.proofs.Schedules as schedules
use Rattle.run_from_formula.proofs.laws.worlds_are_stuck_runs.Goals as goal

pub returns : goal.returns
returns c = schedules.worlds_are_stuck_runs
