use Rattle.std.proofs.Common.{rules}
use Rattle.pool.proofs.keep.Pool.fetch.Goals as goal

pub returns-clause-reply : goal.returns-clause-reply
returns-clause-reply c = search rules
