use Rattle.pool.proofs.Histories.{closed_refute}
use Rattle.pool.proofs.laws.closed_pools_refute.Goals as goal

pub returns : goal.returns
returns c = closed_refute
