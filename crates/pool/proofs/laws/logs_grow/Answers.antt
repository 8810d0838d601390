use Rattle.pool.proofs.Growth.{logs_grow}
use Rattle.pool.proofs.laws.logs_grow.Goals as goal

pub returns : goal.returns
returns c = logs_grow
