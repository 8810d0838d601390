-- Proof lines that join the leaves of a refutation's tree to the empty clause.
use Rattle.std.specs.Prelude.{◌≡◌, ℕ, List, [], ◌++◌, Some, slice_get}
use Rattle.clauses.specs.Clauses.{Conjunction, IsUnsatisfiable}
use Rattle.refutations.specs.Proofs.{ProofLine}
use Rattle.refutations.specs.Refutations.{AreDerived}

-- one of the lines has no literals
abbrev pub HasEmptyLine : List ProofLine → Type 0
HasEmptyLine lines = (place : ℕ) × (line : ProofLine) × (slice_get lines place ≡ Some line) × (line.literals ≡ [])

-- Each of the lines, and then of those that are added, derives from the formula and the lines
-- before it, and one of them all has no literals. So they refute the formula without a tree.
pub record Joins (f : Conjunction) (lines added : List ProofLine) : Type 0 where
  pub derived : AreDerived f (lines ++ added)
  pub empty : HasEmptyLine (lines ++ added)

-- no assignment satisfies a formula with such lines
abbrev pub JoinedRefute : Type 0
JoinedRefute = (f : Conjunction) (lines added : List ProofLine) → Joins f lines added → IsUnsatisfiable f.clauses
