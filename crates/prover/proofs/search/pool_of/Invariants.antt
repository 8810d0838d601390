use Rattle.prover.proofs.search.pool_of.Given as goal

abbrev pub ghosts-search_in : goal.ghosts-search_in
ghosts-search_in g a = record { table = a.cell.table.shared.table_id; opening = a.pool.held; workers = a.options.workers }
