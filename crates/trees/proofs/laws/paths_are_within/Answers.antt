use Rattle.trees.proofs.Splits.{paths_within}
use Rattle.trees.proofs.laws.paths_are_within.Goals as goal

pub returns : goal.returns
returns c = paths_within
