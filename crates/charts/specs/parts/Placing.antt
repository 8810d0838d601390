-- What is known of ranks and calls while steps are placed in columns.
use Rattle.std.specs.Prelude.{◌≡◌, ◌+◌, ◌<◌, ◌≤◌, ◌⊎◌, ◌==◌, nat_lt, ℕ, if◌then◌else◌, List, [], ◌∷◌, ◌++◌, length, map, Option, Some, None, slice_index, slice_set}
use Rattle.std.specs.List.{All, AllPairs, slice_index_or}
use Rattle.std.specs.Option.{unwrap_or}
use Rattle.callorder.specs.declared.calls.Call.{Call}
use Rattle.calltext.specs.Grammar.{long}
use Rattle.callorder.specs.ProgramRules.{IsProgramWithin}
use Rattle.callorder.specs.Programs.{MpiProgram, call_at}
use Rattle.scene.specs.declared.acts.Act.{Act}
use Rattle.scene.specs.declared.acts.Act.TheVariants.{Issue, Match, See}
use Rattle.scene.specs.Labels.{Label}
use Rattle.charts.specs.declared.placing.PlacedAct.{PlacedAct}
use Rattle.charts.specs.declared.placing.Shared.{Shared}
use Rattle.charts.specs.declared.placing.Row.{Row}
use Rattle.charts.specs.declared.placing.StepColumns.{StepColumns}
use Rattle.charts.specs.Columns.{ArePlacedInOrder, column_of, wait_line}

abbrev pub empty_row : Row
empty_row = record { free = 0; waits = None }

-- a rank's row
abbrev pub row_at : List Row → ℕ → Row
row_at rows rank = slice_index_or rows rank empty_row

-- the column that a wait of this line shares
abbrev pub shared_by : Option ℕ → Option Shared → Option ℕ
shared_by None waits = None
shared_by (Some line) None = None
shared_by (Some line) (Some shared) = if shared.line == line then Some shared.column else None

-- the column of the next issue of a row's rank; the line is that of a wait
abbrev pub column_in : Row → Option ℕ → ℕ
column_in row line = unwrap_or (shared_by line row.waits) row.free

abbrev pub shared_of : Option ℕ → ℕ → Option Shared
shared_of None column = None
shared_of (Some line) column = Some (record { line = line; column = column })

-- a row behind an issue that shares no column
abbrev pub fresh_row : Row → Option ℕ → Row
fresh_row row line = record { free = row.free + 1; waits = shared_of line row.free }

abbrev pub row_if : Option ℕ → Row → Row → Row
row_if None fresh row = fresh
row_if (Some column) fresh row = row

-- a row behind the next issue of its rank
abbrev pub row_behind : Row → Option ℕ → Row
row_behind row line = row_if (shared_by line row.waits) (fresh_row row line) row

-- a row in which no column up to this one is free
abbrev pub raised : Row → ℕ → Row
raised row column = record { free = if nat_lt column row.free then row.free else column + 1; waits = row.waits }

-- the row of the call's rank is raised, and no other
pub record HasRaisedRow (p : MpiProgram) (c column : ℕ) (old new : List Row) : Type 0 where
  pub call : Call
  pub is_call : call_at p c ≡ Some call
  pub is_new : new ≡ slice_set old call.rank (raised (row_at old call.rank) column)

-- The column is left of the row's first free one, and of that of the waits that were issued last,
-- or it is theirs, and the call is one of them.
pub record IsIssuedBeforeInRow (p : MpiProgram) (calls : List Label) (row : Row) (c column : ℕ) : Type 0 where
  pub free : column < row.free
  pub waits : (shared : Shared) → row.waits ≡ Some shared → (column < shared.column) ⊎ ((column ≡ shared.column) × (wait_line p calls c ≡ Some shared.line))

-- the column is left of the first free one in the row of the call's rank
abbrev pub IsPast : MpiProgram → List Row → ℕ → ℕ → Type 0
IsPast p rows c column = (call : Call) → call_at p c ≡ Some call → column < (row_at rows call.rank).free

abbrev pub AreIssuedBefore : MpiProgram → List Label → List Row → ℕ → ℕ → Type 0
AreIssuedBefore p calls rows c column = (call : Call) → call_at p c ≡ Some call → IsIssuedBeforeInRow p calls (row_at rows call.rank) c column

-- what rows and issues tell of a step in a column
abbrev pub IsKnown : MpiProgram → List Label → List Row → List ℕ → ℕ → Act → Type 0
IsKnown p calls rows issues column (Issue c b) = AreIssuedBefore p calls rows c column × (column ≤ slice_index issues c)
IsKnown p calls rows issues column (Match s t) = IsPast p rows s column × IsPast p rows t column
IsKnown p calls rows issues column (See s f) = IsPast p rows s column × IsPast p rows f column

abbrev pub IsKnownStep : MpiProgram → List Label → List Row → List ℕ → PlacedAct → Type 0
IsKnownStep p calls rows issues step = IsKnown p calls rows issues step.column step.act

-- waits share a column that is not free
abbrev pub SharesNoFreeColumn : Row → Type 0
SharesNoFreeColumn row = (shared : Shared) → row.waits ≡ Some shared → shared.column < row.free

-- the step is that a call finds the message of a send
abbrev pub IsFindAct : ℕ → ℕ → Act → Type 0
IsFindAct send finder (Issue c b) = ⊥
IsFindAct send finder (Match s t) = (s ≡ send) × (t ≡ finder)
IsFindAct send finder (See s f) = (s ≡ send) × (f ≡ finder)

-- The steps so far stand in so many columns; rows and issues, of which there are as many as ranks
-- and calls, are known.
pub record ArePlaced (p : MpiProgram) (calls : List Label) (rows : List Row) (issues : List ℕ) (count : ℕ) (steps : List PlacedAct) : Type 0 where
  pub program : IsProgramWithin long p
  pub all_rows : length rows ≡ p.ranks
  pub all_issues : length issues ≡ length p.calls
  pub each_row : (rank : ℕ) → SharesNoFreeColumn (row_at rows rank)
  pub known : All (IsKnownStep p calls rows issues) steps
  pub issued : (c : ℕ) → slice_index issues c ≡ column_of steps c
  pub within : All (λ (step : PlacedAct). step.column < count) steps
  pub order : AllPairs (ArePlacedInOrder p calls) steps

abbrev pub ArePlacedIn : MpiProgram → List Label → StepColumns → Type 0
ArePlacedIn p calls columns = ArePlaced p calls columns.rows.items columns.issues.items columns.count columns.steps.items

-- one more step is placed
pub record HasPlaced (p : MpiProgram) (calls : List Label) (old : StepColumns) (act : Act) (new : StepColumns) : Type 0 where
  pub placed : ArePlacedIn p calls new
  pub acts : map (λ (step : PlacedAct). step.act) new.steps.items ≡ map (λ (step : PlacedAct). step.act) old.steps.items ++ act ∷ []
