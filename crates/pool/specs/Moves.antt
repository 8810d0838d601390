-- What becomes of a batch that was derived from a log, where the log has more lines by then.
use Rattle.std.specs.Prelude.{◌≡◌, ℕ, ◌+◌, ◌-◌, ◌++◌, Bool, true, if◌then◌else◌, nat_lt, List, length, map, IsTrue, Some, slice_get}
use Rattle.std.specs.List.{list_all}
use Rattle.refutations.specs.declared.batch.BatchLine.{BatchLine}
use Rattle.refutations.specs.declared.batch.Hint.{Hint}
use Rattle.refutations.specs.declared.batch.Hint.TheVariants.{Known, Own}
use Rattle.clauses.specs.Clauses.{Conjunction}
use Rattle.refutations.specs.Proofs.{ProofLine}
use Rattle.pool.specs.declared.entry.LoggedCall.{LoggedCall}
use Rattle.pool.specs.Growth.{Tells}
use Rattle.pool.specs.Replies.{resolved_lines, DeriveAfter}
use Rattle.pool.specs.States.{PoolState, AreLegalReplies, after_items}

-- the hint names one of the batch's own lines, or a clause with a smaller number than its first
-- line
abbrev pub is_earlier : ℕ → Hint → Bool
is_earlier base (Known number) = nat_lt number base
is_earlier base (Own place) = true

abbrev pub are_earlier : ℕ → List BatchLine → Bool
are_earlier base batch = list_all (λ (line : BatchLine). list_all (is_earlier base) line.hints.items) batch

-- the number of the line after these
abbrev pub number_after : Conjunction → List ProofLine → ℕ
number_after f log = length f.clauses + length log + 1

-- lines, and the number of the first
pub record NumberedLines : Type 0 where
  pub base : ℕ
  pub lines : List ProofLine

-- they are those of a batch, which names nothing from their first on but its own lines
abbrev pub AreOfBatch : List BatchLine → NumberedLines → Type 0
AreOfBatch batch n = (n.lines ≡ resolved_lines n.base batch) × IsTrue (are_earlier n.base batch)

-- a number, where all from one number on are moved so that they begin at another one
abbrev pub moved_hint : ℕ → ℕ → ℕ → ℕ
moved_hint old base number = if nat_lt number old then number else (number - old) + base

abbrev pub moved_line : ℕ → ℕ → ProofLine → ProofLine
moved_line old base line = record { literals = line.literals; hints = map (moved_hint old base) line.hints }

-- lines that derive behind a log derive behind any longer one, with their own numbers moved, unless
-- they name numbers past the log
abbrev pub BatchesMove : Type 0
BatchesMove =
    (f : Conjunction) (log more : List ProofLine) (batch : List BatchLine) → IsTrue (are_earlier (number_after f log) batch)
    → DeriveAfter f log (resolved_lines (number_after f log) batch) → DeriveAfter f (log ++ more) (resolved_lines (number_after f (log ++ more)) batch)

-- after a run of calls each line that one of them published or was told stands in the log
abbrev pub ToldStands : Type 0
ToldStands =
    (h : PoolState) (items : List LoggedCall) (one : LoggedCall) (i place : ℕ) (line : ProofLine) → AreLegalReplies h items → slice_get items i ≡ Some one → Tells h.formula one place line
    → slice_get (after_items h items).log place ≡ Some line
