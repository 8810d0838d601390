use Rattle.pool.proofs.Histories.{cover}
use Rattle.pool.proofs.laws.leaves_cover.Goals as goal

pub returns : goal.returns
returns c = cover
