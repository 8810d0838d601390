-- The nodes of a tree in preorder, from their numbers.
use Rattle.std.specs.Prelude.{ℕ, zero, suc, ◌-◌, List, [], ◌∷◌, Option, Some, None, length, slice_index}
use Rattle.refutations.specs.BinaryTrees.{Tree, leaf, split}
use Rattle.refutations.specs.declared.tree.Node.{Node}
use Rattle.refutations.specs.declared.tree.Node.TheVariants.{Split as SplitNode, Leaf as LeafNode}
use Rattle.trees.specs.declared.tree.NodeKind.{NodeKind}
use Rattle.trees.specs.declared.tree.NodeKind.TheVariants.{Leaf, Split}
use Rattle.trees.specs.Trees.{TreeNode, kind_at}

-- the node of a refutation's tree for a node, which has this number where it is a leaf
abbrev pub proof_node : NodeKind → ℕ → Node
proof_node Leaf number = LeafNode number
proof_node (Split v if_true if_false) number = SplitNode v

-- the nodes directly below, where the one that comes first stands last
abbrev pub nodes_below : NodeKind → List ℕ
nodes_below Leaf = []
nodes_below (Split v if_true if_false) = if_false ∷ if_true ∷ []

-- the tree of a node by what it is, its number and the trees of other nodes
abbrev pub tree_by : Option NodeKind → ℕ → (ℕ → Tree) → Tree
tree_by None number below = leaf number
tree_by (Some Leaf) number below = leaf number
tree_by (Some (Split v if_true if_false)) number below = split v (below if_true) (below if_false)

-- the tree that hangs below a node, to this depth
unfoldable pub tree_to_depth : ℕ → List TreeNode → List ℕ → ℕ → Tree
tree_to_depth zero nodes numbers node = leaf (slice_index numbers node)
tree_to_depth (suc depth) nodes numbers node =
    tree_by (kind_at nodes node) (slice_index numbers node) (λ k. tree_to_depth depth nodes numbers k)

-- the tree that hangs below a node: nodes come after those above them, so no depth is larger
abbrev pub tree_below : List TreeNode → List ℕ → ℕ → Tree
tree_below nodes numbers node = tree_to_depth (length nodes - node) nodes numbers node
