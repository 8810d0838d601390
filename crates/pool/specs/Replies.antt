-- What a batch of lines is, and what it is answered.
use Rattle.std.specs.Prelude.{◌≡◌, ℕ, ◌+◌, ◌++◌, List, length, take, map, Some, slice_get}
use Rattle.refutations.specs.declared.batch.BatchLine.{BatchLine}
use Rattle.refutations.specs.declared.batch.Hint.{Hint}
use Rattle.refutations.specs.declared.batch.Hint.TheVariants.{Known, Own}
use Rattle.clauses.specs.Clauses.{Conjunction}
use Rattle.refutations.specs.Derivations.{Derives}
use Rattle.refutations.specs.Proofs.{ProofLine}
use Rattle.refutations.specs.Refutations.{AreDerivedBetween}

-- the number of what a hint names, where the batch's first line has this number
abbrev pub resolved_hint : ℕ → Hint → ℕ
resolved_hint base (Known number) = number
resolved_hint base (Own place) = base + place

abbrev pub resolved : ℕ → BatchLine → ProofLine
resolved base line = record { literals = line.clause; hints = map (resolved_hint base) line.hints.items }

-- the lines of a batch, where the first has this number
abbrev pub resolved_lines : ℕ → List BatchLine → List ProofLine
resolved_lines base batch = map (resolved base) batch

abbrev pub most_lines : ℕ
most_lines = 1000000

-- so many of the lines derive, each from the formula, the log and the lines before it
abbrev pub DeriveFirst : Conjunction → List ProofLine → List ProofLine → ℕ → Type 0
DeriveFirst f log lines count = AreDerivedBetween f (log ++ lines) (length log) (length log + count)

-- all of them do
abbrev pub DeriveAfter : Conjunction → List ProofLine → List ProofLine → Type 0
DeriveAfter f log lines = DeriveFirst f log lines (length lines)

-- the line at this place is the first that doesn't derive
pub record FailsAt (f : Conjunction) (log lines : List ProofLine) (place : ℕ) : Type 0 where
  pub before : DeriveFirst f log lines place
  pub line : ProofLine
  pub there : slice_get lines place ≡ Some line
  pub not_derived : Derives f (log ++ take place lines) line → ⊥
