use Rattle.waits.proofs.StuckRanks as ranks
use Rattle.waits.proofs.laws.no_rank_is_ready_where_stuck.Goals as goal

pub returns : goal.returns
returns c = ranks.no_rank_is_ready_where_stuck
