-- How deep the nodes of a tree stand.
use Rattle.std.specs.Prelude.{◌≡◌, ℕ, ◌+◌, List, [], ◌∷◌, ◌++◌}
use Rattle.refutations.specs.BinaryTrees.{Tree, leaf, split, preorder}
use Rattle.prooflog.specs.Refutations.{depths}

-- the depths of a tree's nodes in preorder, where this is the depth of its root
abbrev pub depths_in : ℕ → Tree → List ℕ
depths_in depth (leaf number) = depth ∷ []
depths_in depth (split variable first second) = depth ∷ (depths_in (depth + 1) first ++ depths_in (depth + 1) second)

-- the depths of the nodes in preorder are those of the tree, whose root's depth is 0
abbrev pub DepthsAreOfTheTree : Type 0
DepthsAreOfTheTree = (tree : Tree) → depths (0 ∷ []) (preorder tree) ≡ depths_in 0 tree
