use Rattle.sharedpool.proofs.locked.Locked.found.Given as goal

abbrev pub ghosts-found_as : goal.ghosts-found_as
ghosts-found_as g a = record { steps = a.steps.items }
