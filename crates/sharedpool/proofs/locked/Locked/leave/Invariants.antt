use Rattle.pool.specs.States.{leave_item}
use Rattle.sharedpool.proofs.locked.Locked.leave.Given as goal

abbrev pub ghosts-note : goal.ghosts-note
ghosts-note g a = record { item = leave_item a.worker a.call.now }
