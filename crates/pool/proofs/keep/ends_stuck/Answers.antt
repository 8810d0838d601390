use Rattle.std.proofs.Common.{rules}
use Rattle.pool.proofs.keep.ends_stuck.Goals as goal

pub returns-in-Ok-Finished : goal.returns-in-Ok-Finished
returns-in-Ok-Finished c = search rules

pub returns-in-Ok-Live : goal.returns-in-Ok-Live
returns-in-Ok-Live c = search rules
