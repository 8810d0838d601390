use Rattle.test_workers.proofs.searches.liars.left.Given as goal

abbrev pub ghosts-left_by : goal.ghosts-left_by
ghosts-left_by g a = record { table = a.keeper.table_id; opening = a.pool.held; workers = a.workers }
