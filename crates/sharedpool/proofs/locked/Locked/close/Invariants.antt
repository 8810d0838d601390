use Rattle.pool.specs.States.{close_item}
use Rattle.sharedpool.proofs.locked.Locked.close.Given as goal

abbrev pub ghosts-note : goal.ghosts-note
ghosts-note g a = record { item = close_item a.worker a.call.now.0 a.call.now.1 a.reply.now }
