use Rattle.std.proofs.Common.{◌≡◌, ◌<◌, ◌++◌, length}
use Rattle.std.specs.List.{All}
use Rattle.refutations.specs.BinaryTrees.{preorder}
use Rattle.trees.specs.parts.Preorders.{tree_below}
use Rattle.trees.proofs.Written.{left_of}
use Rattle.trees.proofs.proof_tree.preorder.Given as goal

-- what is written, and then what the waiting nodes stand for, is the whole
abbrev pub invariant-loop-node : goal.invariant-loop-node
invariant-loop-node l = record {
  whole : l.nodes.items ++ left_of l.tree.nodes l.numbers l.waiting.items ≡ preorder (tree_below l.tree.nodes l.numbers 0);
  within : All (λ n. n < length l.tree.nodes) l.waiting.items;
}

abbrev pub decreases-loop-node : goal.decreases-loop-node
decreases-loop-node l = length (left_of l.tree.nodes l.numbers l.waiting.items)
