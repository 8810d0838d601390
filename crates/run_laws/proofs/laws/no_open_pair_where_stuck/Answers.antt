use Rattle.run_laws.proofs.Descent as descent
use Rattle.run_laws.proofs.laws.no_open_pair_where_stuck.Goals as goal

pub returns : goal.returns
returns c = descent.no_open_pair_where_stuck
