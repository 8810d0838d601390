use Rattle.pool.proofs.Growth.{lose_nothing}
use Rattle.pool.proofs.laws.runs_lose_nothing.Goals as goal

pub returns : goal.returns
returns c = lose_nothing
