-- How often the runs of a program get stuck.
use Rattle.std.specs.Prelude.{List, ◌++◌}
use Rattle.callorder.specs.Programs.{MpiProgram}
use Rattle.semantics.specs.declared.state.Step.{Step}
use Rattle.semantics.specs.RunEnds.{IsFinishedRun}
use Rattle.semantics.specs.Machine.{opening, IsRun, IsStuckRun}
use Rattle.races.specs.Races.{NamesSources}
use Rattle.always.specs.Always.{IsEndedRun}
use Rattle.leastrun.specs.LeastBuffered.{IsLeastBufferedRun, IsMostBufferedRun}
use Rattle.frequency.specs.declared.judging.Frequency.{Frequency}
use Rattle.frequency.specs.declared.judging.Frequency.TheVariants.{Always, Sometimes, Unknown}

-- No run finishes, and each run that nothing can follow is stuck. Each run can be gone on with
-- until nothing can follow, so each gets stuck however it goes on.
pub record EachRunSticks (p : MpiProgram) : Type 0 where
  pub never_finishes : (steps : List Step) → IsFinishedRun p steps → ⊥
  pub always_sticks : (steps : List Step) → IsEndedRun p steps → IsStuckRun p steps
  pub ends : (steps : List Step) → IsRun p (opening p) steps → (more : List Step) × IsEndedRun p (steps ++ more)

-- the run that buffers as little as the policy allows gets stuck
pub record LeastSticks (p : MpiProgram) : Type 0 where
  pub run : List Step
  pub least : IsLeastBufferedRun p run
  pub stuck : IsStuckRun p run

-- A run that buffers all it may gets stuck, and so does one that buffers as little as it may; and
-- not each receive, matched probe and probe names its source.
pub record IsOpen (p : MpiProgram) : Type 0 where
  pub run : List Step
  pub most : IsMostBufferedRun p run
  pub stuck : IsStuckRun p run
  pub unnamed : NamesSources p → ⊥
  pub least : LeastSticks p

-- each run gets stuck; these steps are a run that finishes; or neither is known
abbrev pub IsFrequency : MpiProgram → Frequency → Type 0
IsFrequency p Always = EachRunSticks p
IsFrequency p (Sometimes steps) = IsFinishedRun p steps.items
IsFrequency p Unknown = IsOpen p
