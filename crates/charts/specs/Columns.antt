-- The columns that the steps of a run stand in, where time goes to the right.
use Rattle.std.specs.Prelude.{◌≡◌, ◌<◌, ◌≤◌, ◌⊎◌, ◌==◌, ◌||◌, ℕ, Bool, true, false, IsTrue, if◌then◌else◌, is_some, List, [], ◌∷◌, map, Option, Some, None, slice_get}
use Rattle.std.specs.List.{All, AllPairs}
use Rattle.callorder.specs.declared.calls.Call.{Call}
use Rattle.callorder.specs.Calls.{operation_of}
use Rattle.callorder.specs.Programs.{MpiProgram, call_at, are_of_one_rank}
use Rattle.scene.specs.declared.acts.Act.{Act}
use Rattle.scene.specs.declared.acts.Act.TheVariants.{Issue, Match, See}
use Rattle.scene.specs.Labels.{Label}
use Rattle.charts.specs.declared.placing.PlacedAct.{PlacedAct}

abbrev pub is_wait_call : Option Call → Bool
is_wait_call None = false
is_wait_call (Some call) = is_some (operation_of call.kind)

-- the call is a wait
abbrev pub is_wait : MpiProgram → ℕ → Bool
is_wait p c = is_wait_call (call_at p c)

abbrev pub line_if : Bool → Option Label → Option ℕ
line_if false told = None
line_if true None = None
line_if true (Some told) = Some told.line

-- the line of a call that is a wait
abbrev pub wait_line : MpiProgram → List Label → ℕ → Option ℕ
wait_line p calls c = line_if (is_wait p c) (slice_get calls c)

-- the calls are waits of one line, as those that a `waitall` stands for
abbrev pub AreWaitsOfOneLine : MpiProgram → List Label → ℕ → ℕ → Type 0
AreWaitsOfOneLine p calls c d = (line : ℕ) × (wait_line p calls c ≡ Some line) × (wait_line p calls d ≡ Some line)

-- What the column u of a step and the column v of a later one keep. Issues of one rank rise, but
-- that waits of one line may share a column. A message is not taken or seen left of where its send,
-- or the call that finds it, is issued. What a rank issues after a message of its own was taken or
-- seen stands right of that; a wait alone may stand left of it, in the column of an earlier wait of
-- its line.
abbrev pub KeepsOrder : MpiProgram → List Label → Act → ℕ → Act → ℕ → Type 0
KeepsOrder p calls (Issue c b) u (Issue d e) v = IsTrue (are_of_one_rank p c d) → (u < v) ⊎ ((u ≡ v) × AreWaitsOfOneLine p calls c d)
KeepsOrder p calls (Issue c b) u (Match s t) v = (c ≡ s) ⊎ (c ≡ t) → u ≤ v
KeepsOrder p calls (Issue c b) u (See s f) v = (c ≡ s) ⊎ (c ≡ f) → u ≤ v
KeepsOrder p calls (Match s t) u (Issue d e) v = IsTrue (are_of_one_rank p s d || are_of_one_rank p t d) → (u < v) ⊎ IsTrue (is_wait p d)
KeepsOrder p calls (See s f) u (Issue d e) v = IsTrue (are_of_one_rank p s d || are_of_one_rank p f d) → (u < v) ⊎ IsTrue (is_wait p d)
KeepsOrder p calls (Match s t) u (Match q r) v = Unit {0}
KeepsOrder p calls (Match s t) u (See q r) v = Unit {0}
KeepsOrder p calls (See s f) u (Match q r) v = Unit {0}
KeepsOrder p calls (See s f) u (See q r) v = Unit {0}

abbrev pub ArePlacedInOrder : MpiProgram → List Label → PlacedAct → PlacedAct → Type 0
ArePlacedInOrder p calls one other = KeepsOrder p calls one.act one.column other.act other.column

-- These steps stand in so many columns, each in one. A reader may rely on it that a box further
-- right is a later call of its rank, and that what an arrow points to was issued no later than the
-- column where the arrow ends. Columns of different ranks that no message ties together say nothing
-- of which came first, and a step need not stand in the first column that it could have.
pub record AreColumns (p : MpiProgram) (calls : List Label) (acts : List Act) (count : ℕ) (steps : List PlacedAct) : Type 0 where
  pub each : map (λ (step : PlacedAct). step.act) steps ≡ acts
  pub within : All (λ (step : PlacedAct). step.column < count) steps
  pub order : AllPairs (ArePlacedInOrder p calls) steps

-- ---- where a call is issued

abbrev pub column_if : ℕ → ℕ → ℕ → Act → ℕ
column_if c so_far column (Issue d b) = if c == d then column else so_far
column_if c so_far column (Match s t) = so_far
column_if c so_far column (See s f) = so_far

abbrev pub column_from : ℕ → ℕ → List PlacedAct → ℕ
column_from c so_far [] = so_far
column_from c so_far (step ∷ steps) = column_from c (column_if c so_far step.column step.act) steps

-- the column of the issue of a call; the first one where its issue isn't among the steps
abbrev pub column_of : List PlacedAct → ℕ → ℕ
column_of steps c = column_from c 0 steps
