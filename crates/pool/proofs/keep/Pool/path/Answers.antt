use Rattle.std.proofs.Common.{rules}
use Rattle.pool.proofs.keep.Pool.path.Goals as goal

pub returns-in-Ok-clause-path : goal.returns-in-Ok-clause-path
returns-in-Ok-clause-path c = search rules
