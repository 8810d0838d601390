use Rattle.std.proofs.Common.{rules}
use Rattle.pool.proofs.keep.Pool.leave.Goals as goal

pub returns-clause-ok : goal.returns-clause-ok
returns-clause-ok c = search rules
