use Rattle.pool.proofs.Growth.{told_stands}
use Rattle.pool.proofs.laws.told_stands.Goals as goal

pub returns : goal.returns
returns c = told_stands
