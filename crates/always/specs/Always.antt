-- The greatest run of a program, one that has all that any run ever has, and what it tells of all
-- runs.
use Rattle.std.specs.Prelude.{◌≡◌, ℕ, ◌<◌, ◌≤◌, ◌⊎◌, true, false, IsTrue, List, Some, slice_get, slice_index, take}
use Rattle.callorder.specs.Programs.{MpiProgram, are_fit, are_of_one_rank}
use Rattle.semantics.specs.declared.state.Step.{Step}
use Rattle.semantics.specs.declared.state.Step.TheVariants.{Issue}
use Rattle.semantics.specs.RunEnds.{IsFinishedRun}
use Rattle.semantics.specs.Machine.{Configuration, opening, after_all, partner_of, is_issued, is_matched, is_buffered, is_rank_finished, IsEnabled, IsRun, IsStuckRun}
use Rattle.races.specs.Blocks.{Blocks, HasFellow, IsLike}
use Rattle.races.specs.Tells.{Table}
use Rattle.races.specs.Races.{MatchesWithin, IsCut}

-- ---- a run that buffers all it may, up to its end

-- no step is enabled
abbrev pub HasEnded : MpiProgram → Configuration → Type 0
HasEnded p m = (step : Step) → IsEnabled p m step → ⊥

-- a run that nothing can follow
pub record IsEndedRun (p : MpiProgram) (steps : List Step) : Type 0 where
  pub run : IsRun p (opening p) steps
  pub ended : HasEnded p (after_all (opening p) steps)

-- Where the run issues a call as not buffered, it couldn't have issued it as buffered. So each
-- standard send is buffered, unless the policy has none buffered.
abbrev pub BuffersAllItMay : MpiProgram → List Step → Type 0
BuffersAllItMay p steps =
    (place rank : ℕ) → slice_get steps place ≡ Some (Issue rank false) → IsEnabled p (after_all (opening p) (take place steps)) (Issue rank true) → ⊥

-- ---- a run that has all that any run ever has

-- The first configuration is a part of the second: each rank has gone no farther, and whatever is
-- matched, seen or buffered is so in the second one, with the same partner.
pub record IsPartOf (p : MpiProgram) (m e : Configuration) : Type 0 where
  pub next : (rank : ℕ) → slice_index m.next rank ≤ slice_index e.next rank
  pub partner : MatchesWithin m e
  pub buffered : (c : ℕ) → IsTrue (is_buffered m c) → IsTrue (is_buffered e c)

-- whatever any run of the program comes to is a part of what these steps come to
abbrev pub IsTheGreatest : MpiProgram → List Step → Type 0
IsTheGreatest p steps = (other : List Step) → IsRun p (opening p) other → IsPartOf p (after_all (opening p) other) (after_all (opening p) steps)

-- ---- which sends race

-- No send races for a finder that has found one: where a send of another rank than the one that the
-- finder found fits it too, it is matched with an earlier call than the finder, or is held back
-- until the finder has found. Only those cuts are looked at that are a part of the configuration.
-- Nothing is asked of finders that have found none.
abbrev pub HasNoRaceBefore : MpiProgram → Configuration → Type 0
HasNoRaceBefore p e =
    (finder own other : ℕ) → partner_of e finder ≡ Some own → IsTrue (are_fit p own finder) → IsTrue (are_fit p other finder) → are_of_one_rank p own other ≡ false
    → ((taker : ℕ) → partner_of e other ≡ Some taker → taker < finder → ⊥)
    → (m : Configuration) → IsCut p e m → IsPartOf p m e → IsTrue (is_issued p m other) → IsTrue (is_matched m finder)

-- The same as a table tells it. Nothing is asked of sends that aren't issued.
abbrev pub ShowsNoRaceBefore : MpiProgram → Configuration → Table → Type 0
ShowsNoRaceBefore p e knows =
    (finder own other : ℕ) → partner_of e finder ≡ Some own → IsTrue (are_fit p own finder) → IsTrue (are_fit p other finder) → are_of_one_rank p own other ≡ false
    → ((taker : ℕ) → partner_of e other ≡ Some taker → taker < finder → ⊥) → IsTrue (is_issued p e other) → IsTrue (knows other finder)

-- ---- the same up to which finder of a block has which of its messages

-- As a part, but for which of a block's finders has which of its messages.
pub record IsWithinBlocks (p : MpiProgram) (block : Blocks) (m e : Configuration) : Type 0 where
  pub next : (rank : ℕ) → slice_index m.next rank ≤ slice_index e.next rank
  pub like : IsLike p block e m
  pub matched : (c : ℕ) → IsTrue (is_matched m c) → IsTrue (is_matched e c)
  pub buffered : (c : ℕ) → IsTrue (is_buffered m c) → IsTrue (is_buffered e c)

-- No send of another block races for a finder, as the table tells. Nothing is asked of sends that
-- aren't issued.
abbrev pub ShowsNoRaceOfBlocksBefore : MpiProgram → Blocks → Configuration → Table → Type 0
ShowsNoRaceOfBlocksBefore p block e knows =
    (finder own other : ℕ) → partner_of e finder ≡ Some own → IsTrue (are_fit p own finder) → IsTrue (are_fit p other finder)
    → (are_of_one_rank p own other ≡ false) ⊎ HasFellow p block finder
    → ((taker : ℕ) → partner_of e other ≡ Some taker → (taker < finder) ⊎ (block taker ≡ block finder) → ⊥) → IsTrue (is_issued p e other) → IsTrue (knows other finder)

-- ---- what can be said of all runs

-- no run finishes the rank
abbrev pub IsNeverFinished : MpiProgram → ℕ → Type 0
IsNeverFinished p rank = (steps : List Step) → IsRun p (opening p) steps → is_rank_finished p (after_all (opening p) steps) rank ≡ false

-- These steps are a stuck run, no run finishes, and each run that nothing can follow is stuck. A
-- rank that these steps don't finish is finished by no run.
pub record SticksInEveryRun (p : MpiProgram) (steps : List Step) : Type 0 where
  pub stuck : IsStuckRun p steps
  pub ranks : (rank : ℕ) → is_rank_finished p (after_all (opening p) steps) rank ≡ false → IsNeverFinished p rank
  pub never_finishes : (other : List Step) → IsFinishedRun p other → ⊥
  pub always_sticks : (other : List Step) → IsEndedRun p other → IsStuckRun p other

-- Some run is stuck, and another one finishes.
pub record SticksInSomeRuns (p : MpiProgram) : Type 0 where
  pub stuck : List Step
  pub finished : List Step
  pub sticks : IsStuckRun p stuck
  pub finishes : IsFinishedRun p finished

-- No run is stuck, or some are and others finish, or each run gets stuck.
abbrev pub HasFrequency : MpiProgram → Type 0
HasFrequency p = ((steps : List Step) → IsStuckRun p steps → ⊥) ⊎ (SticksInSomeRuns p ⊎ ((steps : List Step) × SticksInEveryRun p steps))
