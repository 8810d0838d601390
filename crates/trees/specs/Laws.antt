-- What holds of every tree that grows.
use Rattle.std.specs.Prelude.{◌≡◌, ◌≢◌, ℕ, ◌+◌, ◌<◌, ◌≤◌, nat_le, Bool, ◌&&◌, true, false, IsTrue, List, [], Some, length, slice_index}
use Rattle.std.specs.List.{list_all}
use Rattle.clauses.specs.Clauses.{Literal, TruthAssignment, makes_true}
use Rattle.refutations.specs.BinaryTrees.{Tree}
use Rattle.refutations.specs.Trees.{branch, IsRefuted, Refutes}
use Rattle.trees.specs.declared.tree.NodeKind.TheVariants.{Split}
use Rattle.trees.specs.Trees.{TreeNode, Grows, IsLeaf, IsBelow, path_at, kind_at, split_at}

-- there is a leaf of this number, all of whose literals are true
pub record IsReachedLeaf (nodes : List TreeNode) (a : TruthAssignment) (place : ℕ) : Type 0 where
  pub is_leaf : IsLeaf nodes place
  pub all_true : IsTrue (list_all (makes_true a) (path_at nodes place))

-- each assignment makes all literals of one leaf true, and those of no other
abbrev pub OneLeafForEachAssignment : Type 0
OneLeafForEachAssignment =
    (variables : ℕ) (nodes : List TreeNode) (a : TruthAssignment) → Grows variables nodes
    → (place : ℕ) × IsReachedLeaf nodes a place × ((other : ℕ) → IsReachedLeaf nodes a other → other ≡ place)

-- each leaf's clause is refuted by its path
abbrev pub AreLeavesRefuted : List TreeNode → List (List Literal) → List ℕ → Type 0
AreLeavesRefuted nodes clauses numbers =
    (place : ℕ) → IsLeaf nodes place → IsRefuted clauses (path_at nodes place) (slice_index numbers place)

-- a tree each of whose leaves is refuted refutes
abbrev pub ClosedLeavesRefute : Type 0
ClosedLeavesRefute =
    (variables : ℕ) (nodes : List TreeNode) (clauses : List (List Literal)) (numbers : List ℕ) (tree : Tree)
    → Grows variables nodes → AreLeavesRefuted nodes clauses numbers → IsBelow nodes numbers tree 0 → Refutes variables clauses [] tree

-- a split's variable is one of so many, and the nodes below it come after it and have its path with
-- one literal more
pub record IsSplitSound (variables : ℕ) (nodes : List TreeNode) (node v if_true if_false : ℕ) : Type 0 where
  pub from_one : 1 ≤ v
  pub within : v ≤ variables
  pub later : node < if_true
  pub adjacent : if_false ≡ if_true + 1
  pub there : if_false < length nodes
  pub path_for_true : path_at nodes if_true ≡ branch v true (path_at nodes node)
  pub path_for_false : path_at nodes if_false ≡ branch v false (path_at nodes node)

-- the root has the empty path, and each split is sound
abbrev pub SplitsAreSound : Type 0
SplitsAreSound =
    (variables : ℕ) (nodes : List TreeNode) → Grows variables nodes
    → (path_at nodes 0 ≡ []) × ((node v if_true if_false : ℕ) → kind_at nodes node ≡ Some (Split v if_true if_false) → IsSplitSound variables nodes node v if_true if_false)

-- what a split of a leaf leaves
pub record IsSplitApart (nodes : List TreeNode) (place v : ℕ) : Type 0 where
  pub there : place < length nodes
  pub size : length (split_at nodes place v) ≡ length nodes + 2
  pub here : kind_at (split_at nodes place v) place ≡ Some (Split v (length nodes) (length nodes + 1))
  pub leaf_for_true : IsLeaf (split_at nodes place v) (length nodes)
  pub leaf_for_false : IsLeaf (split_at nodes place v) (length nodes + 1)
  pub path_for_true : path_at (split_at nodes place v) (length nodes) ≡ branch v true (path_at nodes place)
  pub path_for_false : path_at (split_at nodes place v) (length nodes + 1) ≡ branch v false (path_at nodes place)
  pub paths_kept : (node : ℕ) → node < length nodes → path_at (split_at nodes place v) node ≡ path_at nodes node
  pub kinds_kept : (node : ℕ) → node < length nodes → node ≢ place → kind_at (split_at nodes place v) node ≡ kind_at nodes node

-- a split changes one leaf, and two leaves are new
abbrev pub SplitsChangeOneLeaf : Type 0
SplitsChangeOneLeaf = (nodes : List TreeNode) (place v : ℕ) → IsLeaf nodes place → IsSplitApart nodes place v

-- each literal's variable is one of so many
abbrev pub is_path_within : ℕ → List Literal → Bool
is_path_within variables = list_all (λ l. nat_le 1 l.variable && nat_le l.variable variables)

-- the variables of paths are of those that the tree is over
abbrev pub PathsAreWithin : Type 0
PathsAreWithin =
    (variables : ℕ) (nodes : List TreeNode) (node : ℕ) → Grows variables nodes → IsTrue (is_path_within variables (path_at nodes node))
