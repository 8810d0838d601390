use Rattle.trees.proofs.Splits.{one_leaf_for_each}
use Rattle.trees.proofs.laws.one_leaf_for_each_assignment.Goals as goal

pub returns : goal.returns
returns c = one_leaf_for_each
