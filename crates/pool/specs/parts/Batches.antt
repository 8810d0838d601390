-- How a batch is read: numbers that are too large for a hint stand for one another.
use Rattle.std.specs.Prelude.{ℕ, ◌+◌, ◌-◌, ◌<◌, ◌≤◌, if◌then◌else◌, nat_lt, List, length, min, Result, Ok, Err}
use Rattle.refutations.specs.declared.batch.Hint.{Hint}
use Rattle.refutations.specs.declared.batch.Hint.TheVariants.{Known, Own}
use Rattle.clauses.specs.Clauses.{Conjunction}
use Rattle.refutations.specs.Proofs.{ProofLine}
use Rattle.pool.specs.declared.entry.PublishFault.{PublishFault}
use Rattle.pool.specs.declared.entry.PublishFault.TheVariants.{Memory, NotDerived, Full}
use Rattle.pool.specs.Replies.{DeriveAfter, FailsAt, most_lines}

-- the number of what a hint names, where numbers have four bytes
abbrev pub capped_hint : ℕ → Hint → ℕ
capped_hint base (Known number) = number
capped_hint base (Own place) = min (base + place) 4294967295

-- a number that is moved with all from one number on, where numbers have four bytes
abbrev pub capped_move : ℕ → ℕ → ℕ → ℕ
capped_move old base number = if nat_lt number old then number else min ((number - old) + base) 4294967295

-- why the lines aren't all derived
abbrev pub IsDerivationFault : Conjunction → List ProofLine → List ProofLine → PublishFault → Type 0
IsDerivationFault f log lines Memory = Unit {0}
IsDerivationFault f log lines (NotDerived place) = FailsAt f log lines place
IsDerivationFault f log lines Full = ⊥

-- what the lines are answered
abbrev pub IsExtended : Conjunction → List ProofLine → List ProofLine → Result (Unit {0}) PublishFault → Type 0
IsExtended f log lines (Ok _) = DeriveAfter f log lines × (length log + length lines ≤ most_lines)
IsExtended f log lines (Err Memory) = Unit {0}
IsExtended f log lines (Err (NotDerived place)) = FailsAt f log lines place
IsExtended f log lines (Err Full) = DeriveAfter f log lines × (most_lines < length log + length lines)
