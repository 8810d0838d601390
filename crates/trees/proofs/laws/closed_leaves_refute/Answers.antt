use Rattle.trees.proofs.Splits.{closed_refute}
use Rattle.trees.proofs.laws.closed_leaves_refute.Goals as goal

pub returns : goal.returns
returns c = closed_refute
