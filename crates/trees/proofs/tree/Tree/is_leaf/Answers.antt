use Rattle.std.proofs.Common.{rules}
use Rattle.trees.proofs.tree.Tree.is_leaf.Goals as goal

pub returns-clause-same : goal.returns-clause-same
returns-clause-same c = search rules

pub returns-clause-within : goal.returns-clause-within
returns-clause-within c = search rules
