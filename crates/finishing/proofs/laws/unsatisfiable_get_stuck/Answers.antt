use Rattle.finishing.proofs.Sticking as sticking
use Rattle.finishing.proofs.laws.unsatisfiable_get_stuck.Goals as goal

pub returns : goal.returns
returns c = sticking.unsatisfiable_get_stuck
