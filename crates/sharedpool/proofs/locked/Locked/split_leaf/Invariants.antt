use Rattle.pool.specs.States.{split_item}
use Rattle.sharedpool.proofs.locked.Locked.split_leaf.Given as goal

abbrev pub ghosts-note : goal.ghosts-note
ghosts-note g a = record { item = split_item a.worker a.call.now.0 a.call.now.1 a.reply.now }
