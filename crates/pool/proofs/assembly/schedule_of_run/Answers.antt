use Rattle.pool.proofs.Limits.{stuck_run_is_schedule}
use Rattle.pool.proofs.assembly.schedule_of_run.Goals as goal

pub unreachable-requires : goal.unreachable-requires
unreachable-requires c = let made = c.in-Err.ensures.when.1 (stuck_run_is_schedule _ _ c.calls-calls.ensures.kept c.requires) in cc
