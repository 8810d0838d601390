use Rattle.std.proofs.Common.{rules}
use Rattle.pool.proofs.extend.resolved_hint.Goals as goal

pub returns-in-Own : goal.returns-in-Own
returns-in-Own c = search rules
