-- How many leaves are open.
use Rattle.std.specs.Prelude.{ℕ, ◌+◌, ◌==◌, Bool, false, List, [], ◌∷◌, if◌then◌else◌}
use Rattle.trees.specs.declared.tree.NodeKind.{NodeKind}
use Rattle.trees.specs.declared.tree.NodeKind.TheVariants.{Leaf, Split}
use Rattle.trees.specs.Trees.{TreeNode}

-- a leaf is open where no clause closes it
abbrev pub is_open_kind : NodeKind → ℕ → Bool
is_open_kind Leaf number = number == 0
is_open_kind (Split v if_true if_false) number = false

-- how many of the nodes are open leaves, where these are the numbers of their clauses
abbrev pub open_count : List TreeNode → List ℕ → ℕ
open_count [] numbers = 0
open_count (node ∷ nodes) [] = 0
open_count (node ∷ nodes) (number ∷ numbers) = (if is_open_kind node.kind number then 1 else 0) + open_count nodes numbers
