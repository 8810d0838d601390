use Rattle.pool.specs.States.{publish_item}
use Rattle.sharedpool.proofs.locked.Locked.publish.Given as goal

abbrev pub ghosts-note : goal.ghosts-note
ghosts-note g a = record { item = publish_item a.worker a.call.now.lines.items a.reply.now }
