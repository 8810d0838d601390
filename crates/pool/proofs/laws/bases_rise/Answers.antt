use Rattle.pool.proofs.Growth.{bases_rise}
use Rattle.pool.proofs.laws.bases_rise.Goals as goal

pub returns : goal.returns
returns c = bases_rise
