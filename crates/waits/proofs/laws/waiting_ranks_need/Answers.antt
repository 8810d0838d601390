use Rattle.waits.proofs.OutstandingNeeds as needs
use Rattle.waits.proofs.laws.waiting_ranks_need.Goals as goal

pub returns : goal.returns
returns c = needs.waiting_ranks_need
