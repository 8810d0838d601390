use Rattle.pool.specs.States.{found_item}
use Rattle.sharedpool.proofs.locked.Locked.found_as.Given as goal

abbrev pub ghosts-note : goal.ghosts-note
ghosts-note g a = record { item = found_item a.worker g.S.StepsName.steps a.reply.now }
