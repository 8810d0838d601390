-- What stays in a pool's log, and where in it the lines of a call stand.
use Rattle.std.specs.Prelude.{◌≡◌, ℕ, ◌+◌, ◌-◌, ◌<◌, ◌≤◌, List, ◌++◌, length, Option, Some, None, slice_get, Ok}
use Rattle.clauses.specs.Clauses.{Conjunction}
use Rattle.refutations.specs.Proofs.{ProofLine}
use Rattle.pool.specs.declared.entry.Operation.{Operation}
use Rattle.pool.specs.declared.entry.Operation.TheVariants.{Publish, Fetch}
use Rattle.pool.specs.declared.entry.LoggedCall.{LoggedCall}
use Rattle.pool.specs.States.{PoolState, AreLegalReplies, after_items}

-- the place in the log, from 0, of the first line that an accepted publish was given, or that an
-- accepted fetch answered
abbrev pub first_line_place : Conjunction → Operation → Option ℕ
first_line_place formula (Publish count (Ok base)) = Some (base - (length formula.clauses + 1))
first_line_place formula (Fetch from (Ok count)) = Some from
first_line_place formula operation = None

-- by this call the line with this place in the log was published or told
pub record Tells (formula : Conjunction) (item : LoggedCall) (place : ℕ) (line : ProofLine) : Type 0 where
  pub first : ℕ
  pub begins : first_line_place formula item.entry.operation ≡ Some first
  pub past : first ≤ place
  pub there : slice_get item.lines (place - first) ≡ Some line

-- a fetch of the log after this many lines, which was accepted
abbrev pub IsFetchAfter : ℕ → LoggedCall → Type 0
IsFetchAfter from item = (count : ℕ) × (item.entry.operation ≡ Fetch from (Ok count))

-- each accepted fetch tells every line past its start that was published or told by an earlier call
abbrev pub LosesNothing : Conjunction → List LoggedCall → Type 0
LosesNothing formula items =
    (i j : ℕ) (one later : LoggedCall) (place from : ℕ) (line : ProofLine) → i < j → slice_get items i ≡ Some one → slice_get items j ≡ Some later
    → Tells formula one place line → IsFetchAfter from later → from ≤ place → Tells formula later place line

-- ---- laws

-- whatever calls are made, the log begins as it did
abbrev pub LogsGrow : Type 0
LogsGrow = (h : PoolState) (items : List LoggedCall) → (more : List ProofLine) × ((after_items h items).log ≡ h.log ++ more)

-- each accepted batch stands past all lines of those before it
abbrev pub BasesRise : Type 0
BasesRise =
    (h : PoolState) (items : List LoggedCall) (i j : ℕ) (one later : LoggedCall) (count next_count base next : ℕ) → AreLegalReplies h items → i < j
    → slice_get items i ≡ Some one → slice_get items j ≡ Some later → one.entry.operation ≡ Publish count (Ok base) → later.entry.operation ≡ Publish next_count (Ok next)
    → base + count ≤ next

-- in a run of calls no fetch lacks what was published or told before it
abbrev pub RunsLoseNothing : Type 0
RunsLoseNothing = (h : PoolState) (items : List LoggedCall) → AreLegalReplies h items → LosesNothing h.formula items
