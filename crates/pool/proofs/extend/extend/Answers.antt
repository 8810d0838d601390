use Rattle.std.proofs.Common.{rules}
use Rattle.pool.proofs.extend.extend.Goals as goal

pub returns-in-Ok-append-clause-reply : goal.returns-in-Ok-append-clause-reply
returns-in-Ok-append-clause-reply c = search rules

pub returns-in-Ok-append-clause-ok : goal.returns-in-Ok-append-clause-ok
returns-in-Ok-append-clause-ok c = search rules
