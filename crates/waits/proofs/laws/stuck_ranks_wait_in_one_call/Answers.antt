use Rattle.waits.proofs.StuckRanks as ranks
use Rattle.waits.proofs.laws.stuck_ranks_wait_in_one_call.Goals as goal

pub returns : goal.returns
returns c = ranks.stuck_ranks_wait_in_one_call
