use Rattle.pool.proofs.Moves.{batches_move}
use Rattle.pool.proofs.laws.batches_move.Goals as goal

pub returns : goal.returns
returns c = batches_move
