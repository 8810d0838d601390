use Rattle.command_line.proofs.ReadTasks.{one_task_is_asked}
use Rattle.command_line.proofs.laws.one_task_is_asked.Goals as goal

pub returns : goal.returns
returns c = one_task_is_asked
