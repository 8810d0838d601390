-- Trees of cubes, which grow by splits of leaves. Nodes are numbered from 0, the root.
use Rattle.std.specs.Prelude.{◌≡◌, ◌⊎◌, ℕ, ◌+◌, ◌≤◌, ◌<◌, true, false, IsTrue, List, [], ◌∷◌, ◌++◌, Option, Some, length, slice_get, slice_set, slice_index, slice_index_or}
use Rattle.std.specs.Option.{option_map}
use Rattle.clauses.specs.Clauses.{Literal}
use Rattle.refutations.specs.BinaryTrees.{Tree, leaf, split}
use Rattle.refutations.specs.Proofs.{is_proof_number}
use Rattle.refutations.specs.Trees.{branch}
use Rattle.trees.specs.declared.tree.NodeKind.{NodeKind}
use Rattle.trees.specs.declared.tree.NodeKind.TheVariants.{Leaf, Split}

-- the literals from a node up to the root, and what the node is
pub record TreeNode : Type 0 where
  pub path : List Literal
  pub kind : NodeKind

-- over how many variables the tree is, and its nodes by their numbers
pub record TreeState : Type 0 where
  pub variables : ℕ
  pub nodes : List TreeNode

abbrev pub leaf_with : List Literal → TreeNode
leaf_with path = record { path = path; kind = Leaf }

-- the literals from the node of this number up to the root
abbrev pub path_at : List TreeNode → ℕ → List Literal
path_at nodes node = (slice_index_or nodes node (leaf_with [])).path

-- what the node of this number is; there is none past the last one
abbrev pub kind_at : List TreeNode → ℕ → Option NodeKind
kind_at nodes node = option_map (λ n. n.kind) (slice_get nodes node)

-- there is a node of this number, and it is a leaf
abbrev pub IsLeaf : List TreeNode → ℕ → Type 0
IsLeaf nodes node = kind_at nodes node ≡ Some Leaf

-- The leaf becomes a split on the variable and keeps its path; two leaves come to the end, the
-- first of which has the variable true, and the second false.
abbrev pub split_at : List TreeNode → ℕ → ℕ → List TreeNode
split_at nodes place v =
    let path = path_at nodes place in
    let count = length nodes in
    slice_set nodes place (record { path = path; kind = Split v count (count + 1) })
    ++ leaf_with (branch v true path) ∷ leaf_with (branch v false path) ∷ []

-- nodes that come from the one leaf without literals by splits of leaves on some of so many
-- variables
pub data Grows (variables : ℕ) : List TreeNode → Type 0 where
  one_leaf : Grows variables (leaf_with [] ∷ [])
  one_more : (nodes : List TreeNode) (place v : ℕ) → Grows variables nodes → IsLeaf nodes place → 1 ≤ v → v ≤ variables → Grows variables (split_at nodes place v)

-- a split of this leaf would make too many nodes or too long a path
abbrev pub HasNoRoom : List TreeNode → ℕ → Type 0
HasNoRoom nodes place = (65536 < length nodes + 2) ⊎ (64 < length (path_at nodes place) + 1)

-- no path is too long
abbrev pub IsShallow : List TreeNode → Type 0
IsShallow nodes = (node : ℕ) → length (path_at nodes node) ≤ 64

-- what holds of every tree
pub record IsGrownTree (tree : TreeState) : Type 0 where
  pub variables_fit : tree.variables ≤ 2147483647
  pub grows : Grows tree.variables tree.nodes
  pub few : length tree.nodes ≤ 65536
  pub shallow : IsShallow tree.nodes

-- the tree that hangs below a node, where each leaf has the number that stands at its place
abbrev pub IsBelow : List TreeNode → List ℕ → Tree → ℕ → Type 0
IsBelow nodes numbers (leaf number) node = IsLeaf nodes node × (number ≡ slice_index numbers node)
IsBelow nodes numbers (split v first second) node =
    (if_true : ℕ) × (if_false : ℕ)
    × (kind_at nodes node ≡ Some (Split v if_true if_false))
    × IsBelow nodes numbers first if_true
    × IsBelow nodes numbers second if_false

-- each leaf has the number of a clause at its place
abbrev pub AreLeavesNumbered : List TreeNode → List ℕ → Type 0
AreLeavesNumbered nodes numbers = (place : ℕ) → IsLeaf nodes place → IsTrue (is_proof_number (slice_index numbers place))
