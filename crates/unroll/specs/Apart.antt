-- The messages of collective calls are apart from those of the text, and from one another's.
use Rattle.std.specs.Prelude.{◌≡◌, ℕ, ◌+◌, Bool, true, List, ◌++◌, Option, Some, None, slice_get}
use Rattle.std.specs.List.{AllByRecursion}
use Rattle.spmd_tree.specs.declared.tree.CollectiveKind.{CollectiveKind}
use Rattle.spmd_tree.specs.declared.tree.SpmdStatement.{SpmdStatement}
use Rattle.unroll.specs.declared.call.Group.{Group}
use Rattle.unroll.specs.declared.call.Meeting.{Meeting}
use Rattle.unroll.specs.declared.call.Placed.{Placed}
use Rattle.unroll.specs.declared.call.UnrolledCall.{UnrolledCall}
use Rattle.unroll.specs.declared.call.UnrolledCall.TheVariants as call
use Rattle.unroll.specs.declared.machine.Scope.{Scope}
use Rattle.unroll.specs.declared.value.Value.{Value}
use Rattle.unroll.specs.Groups.{alike, is_member, meeting_of}
use Rattle.unroll.specs.Runs.{TextRun, Done, collective_run}
use Rattle.unroll.specs.Statements.{meaning, ranks_from}

-- a blocking send, or a blocking receive that names its source and its tag, in this communicator
abbrev pub IsWithin : ℕ → UnrolledCall → Type 0
IsWithin c (call.Send mode None destination tag on) = on ≡ c
IsWithin c (call.Receive None (Some source) (Some tag) on) = on ≡ c
IsWithin c _ = ⊥

-- These meet with this number, and the calls between the one run and the other are within their
-- communicator, 128 + the number. The calls of a text are in communicators to 127, so none of its
-- receives takes what is sent there, and no wildcard stands there.
pub record AreOfThoseWhoMeet (m : Meeting) (run after : TextRun) : Type 0 where
  pub number : ℕ
  pub meet : slice_get after.meetings number ≡ Some m
  pub added : List Placed
  pub calls : after.calls ≡ run.calls ++ added
  pub are : AllByRecursion (λ p. IsWithin (128 + number) p.call) added

-- A collective call is calls within the communicator of those who meet in it.
abbrev pub CollectivesAreApart : Type 0
CollectivesAreApart =
    (scope : Scope) (line : ℕ) (kind : CollectiveKind) (root : ℕ) (g : Group) (c : ℕ) (run after : TextRun) → collective_run scope line kind root g c run ≡ Done after
    → AreOfThoseWhoMeet (meeting_of c g) run after

-- those who met in the first run meet in the second with the same number
abbrev pub KeepsNumbers : TextRun → TextRun → Type 0
KeepsNumbers run after = (more : List Meeting) × (after.meetings ≡ run.meetings ++ more)

-- Whoever meets keeps the number, on the rank and on all that follow. So of two collective calls of
-- a text whose communicators or ranks differ no message of the one is taken by the other.
pub record NumbersStay : Type 0 where
  pub on_a_rank : (program : SpmdStatement) (scope : Scope) (run after : TextRun) → meaning program scope run ≡ Done after → KeepsNumbers run after
  pub on_all : (n : ℕ) (program : SpmdStatement) (settings : List (Option Value)) (rank size : ℕ) (barriers : Bool) (most_calls most_turns : ℕ) (run after : TextRun)
      → ranks_from n program settings rank size barriers most_calls most_turns run ≡ Done after → KeepsNumbers run after

-- both groups have the same ranks
abbrev pub HaveSameRanks : Group → Group → Type 0
HaveSameRanks a b = (rank : ℕ) → is_member a rank ≡ is_member b rank

-- The spelling of a group is that of all groups with the same ranks, and it has its ranks.
pub record IsSpellingOfRanks (a : Group) : Type 0 where
  pub same : (b : Group) → HaveSameRanks a b → alike a ≡ alike b
  pub keeps : HaveSameRanks (alike a) a

-- so it is of each group with a rank
abbrev pub GroupsAreSpelledAlike : Type 0
GroupsAreSpelledAlike = (a : Group) (rank : ℕ) → is_member a rank ≡ true → IsSpellingOfRanks a
