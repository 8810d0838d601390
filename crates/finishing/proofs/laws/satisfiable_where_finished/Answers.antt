use Rattle.finishing.proofs.Satisfying as satisfying
use Rattle.finishing.proofs.laws.satisfiable_where_finished.Goals as goal

pub returns : goal.returns
returns c = satisfying.satisfiable_where_finished
