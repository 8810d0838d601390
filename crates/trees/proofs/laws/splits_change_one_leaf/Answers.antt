use Rattle.trees.proofs.Splits.{one_leaf_changed}
use Rattle.trees.proofs.laws.splits_change_one_leaf.Goals as goal

pub returns : goal.returns
returns c = one_leaf_changed
