use Rattle.finishing.proofs.Satisfying as satisfying
use Rattle.finishing.proofs.laws.satisfying_give_finished_runs.Goals as goal

pub returns : goal.returns
returns c = satisfying.satisfying_give_finished_runs
