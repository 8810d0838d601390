-- The evidence of a pool.
use Rattle.std.specs.Prelude.{◌≡◌, ℕ, List, length, Some, IsNone}
use Rattle.semantics.specs.Machine.{IsStuckRun}
use Rattle.refutations.specs.declared.tree.Node.{Node}
use Rattle.refutations.specs.BinaryTrees.{Tree, preorder}
use Rattle.refutations.specs.Refutations.{Accepts}
use Rattle.prooflog.specs.declared.refutation.Version.TheVariants.{One}
use Rattle.prooflog.specs.Refutations.{ClaimedRefutation}
use Rattle.prooflog.specs.declared.evidence.Evidence.{Evidence}
use Rattle.prooflog.specs.declared.evidence.Evidence.TheVariants.{Schedule, Refutation}
use Rattle.trees.specs.Trees.{TreeNode, IsBelow}
use Rattle.pool.specs.States.{PoolState, IsOpenLeaf}

-- the nodes are those of this tree in preorder, each leaf with the number of the clause that closes
-- it
abbrev pub IsTreeOf : List TreeNode → List ℕ → List Node → Type 0
IsTreeOf nodes numbers claimed = (tree : Tree) × (preorder tree ≡ claimed) × IsBelow nodes numbers tree 0

-- all leaves are closed and nothing was found, and the claim is the log with the tree, which refute
-- the formula; it may have lines that are not needed
pub record IsRefutationOf (h : PoolState) (claim : ClaimedRefutation) : Type 0 where
  pub none_found : IsNone h.schedule
  pub none_open : (leaf : ℕ) → IsOpenLeaf h leaf → ⊥
  pub version : claim.version ≡ One
  pub variables : claim.variables ≡ h.formula.variables
  pub clauses : claim.clauses ≡ length h.formula.clauses
  pub lines : claim.lines ≡ h.log
  pub tree : IsTreeOf h.tree.nodes h.closed claim.nodes
  pub accepted : Accepts h.formula claim.lines claim.nodes

-- the evidence is the schedule that was found, or else the refutation
abbrev pub IsAssembled : PoolState → Evidence → Type 0
IsAssembled h (Schedule steps) = (h.schedule ≡ Some steps) × IsStuckRun h.program steps
IsAssembled h (Refutation claim) = IsRefutationOf h claim

-- nothing was found, and some leaf is open
abbrev pub IsUndecidedPool : PoolState → Type 0
IsUndecidedPool h = IsNone h.schedule × (leaf : ℕ) × IsOpenLeaf h leaf
