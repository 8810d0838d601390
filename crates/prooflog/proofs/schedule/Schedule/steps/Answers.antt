use Rattle.std.proofs.Common.{rules}
use Rattle.prooflog.proofs.schedule.Schedule.steps.Goals as goal

pub returns-clause-same : goal.returns-clause-same
returns-clause-same c = search rules

pub returns-clause-limits : goal.returns-clause-limits
returns-clause-limits c = search rules
