use Rattle.pool.specs.States.{fetch_item}
use Rattle.sharedpool.proofs.locked.Locked.fetch.Given as goal

abbrev pub ghosts-note : goal.ghosts-note
ghosts-note g a = record { item = fetch_item a.worker a.call.now a.reply.now }
