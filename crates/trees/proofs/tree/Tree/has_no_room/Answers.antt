use Rattle.std.proofs.Common.{rules}
use Rattle.trees.proofs.tree.Tree.has_no_room.Goals as goal

pub returns-then-len-gt-MOST_TREE_NODES : goal.returns-then-len-gt-MOST_TREE_NODES
returns-then-len-gt-MOST_TREE_NODES c = search rules

pub returns-else-len-gt-MOST_TREE_NODES : goal.returns-else-len-gt-MOST_TREE_NODES
returns-else-len-gt-MOST_TREE_NODES c = search rules
