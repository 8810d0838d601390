use Rattle.pool.proofs.Legal.{legal}
use Rattle.pool.proofs.laws.runs_are_legal.Goals as goal

pub returns : goal.returns
returns c = legal
