use Rattle.std.proofs.Common.{rules}
use Rattle.pool.proofs.keep.Pool.is_closed_by.Goals as goal

pub returns-in-Some : goal.returns-in-Some
returns-in-Some c = search rules
