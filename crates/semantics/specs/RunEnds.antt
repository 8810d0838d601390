-- How else runs end, where a list of steps is no run, and what a replay answers.
use Rattle.std.specs.Prelude.{◌≡◌, ℕ, ◌+◌, ◌<◌, IsTrue, List, take, Some, slice_get, Result, Ok, Err}
use Rattle.callorder.specs.Programs.{MpiProgram}
use Rattle.semantics.specs.declared.state.Step.{Step}
use Rattle.semantics.specs.Machine.{Configuration, IsEnabled, IsRun, IsStuck, after_all, is_rank_finished, opening, IsStuckRun}
use Rattle.semantics.specs.declared.schedule.End.{End}
use Rattle.semantics.specs.declared.schedule.End.TheVariants.{Stuck, Finished, Live}

-- all ranks are finished; messages that nobody receives don't matter
abbrev pub IsFinished : MpiProgram → Configuration → Type 0
IsFinished p m = (rank : ℕ) → rank < p.ranks → IsTrue (is_rank_finished p m rank)

-- a run that ends where all ranks are finished
pub record IsFinishedRun (p : MpiProgram) (steps : List Step) : Type 0 where
  pub run : IsRun p (opening p) steps
  pub finished : IsFinished p (after_all (opening p) steps)

-- a run whose end is neither stuck nor finished
pub record IsLiveRun (p : MpiProgram) (steps : List Step) : Type 0 where
  pub run : IsRun p (opening p) steps
  pub not_stuck : IsStuck p (after_all (opening p) steps) → ⊥
  pub not_finished : IsFinished p (after_all (opening p) steps) → ⊥

-- the step at this place, from 1, is the first that is not enabled
pub record StopsAtStep (p : MpiProgram) (steps : List Step) (at : ℕ) : Type 0 where
  pub step : Step
  pub place : ℕ
  pub at_place : at ≡ place + 1
  pub there : slice_get steps place ≡ Some step
  pub run : IsRun p (opening p) (take place steps)
  pub not_enabled : IsEnabled p (after_all (opening p) (take place steps)) step → ⊥

-- what each answer says of the steps
abbrev pub Replays : MpiProgram → List Step → Result End ℕ → Type 0
Replays p steps (Ok Stuck) = IsStuckRun p steps
Replays p steps (Ok Finished) = IsFinishedRun p steps
Replays p steps (Ok Live) = IsLiveRun p steps
Replays p steps (Err at) = StopsAtStep p steps at
