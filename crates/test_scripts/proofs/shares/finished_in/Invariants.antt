use Rattle.test_scripts.proofs.shares.finished_in.Given as goal

abbrev pub ghosts-finished : goal.ghosts-finished
ghosts-finished g a = record { table = a.keeper.table_id; opening = a.pool.held; workers = 2 }
