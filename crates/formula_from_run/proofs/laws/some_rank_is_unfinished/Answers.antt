use Rattle.formula_from_run.proofs.Ranks as ranks
use Rattle.formula_from_run.proofs.laws.some_rank_is_unfinished.Goals as goal

pub returns : goal.returns
returns c = ranks.some_rank_is_unfinished
