-- The runs that buffer as little and as much as the policy allows.
use Rattle.std.specs.Prelude.{List}
use Rattle.callorder.specs.Programs.{MpiProgram}
use Rattle.semantics.specs.declared.state.Step.{Step}
use Rattle.semantics.specs.Machine.{Configuration, opening, after_all, IsEnabled, IsRun}
use Rattle.races.specs.Races.{BuffersNoneByChoice}
use Rattle.always.specs.Always.{BuffersAllItMay}
use Rattle.leastrun.specs.declared.walk.Buffering.{Buffering}
use Rattle.leastrun.specs.declared.walk.Buffering.TheVariants.{Least, Most}

-- no step is enabled
abbrev pub NothingEnabled : MpiProgram → Configuration → Type 0
NothingEnabled p m = (step : Step) → IsEnabled p m step → ⊥

-- A run from the opening configuration, after which no step is enabled, and which buffers a
-- standard send only where the policy has each buffered.
pub record IsLeastBufferedRun (p : MpiProgram) (steps : List Step) : Type 0 where
  pub run : IsRun p (opening p) steps
  pub ended : NothingEnabled p (after_all (opening p) steps)
  pub choice : BuffersNoneByChoice p steps

-- A run from the opening configuration, after which no step is enabled, and which leaves a call
-- unbuffered only where it can't be issued as buffered.
pub record IsMostBufferedRun (p : MpiProgram) (steps : List Step) : Type 0 where
  pub run : IsRun p (opening p) steps
  pub ended : NothingEnabled p (after_all (opening p) steps)
  pub choice : BuffersAllItMay p steps

-- the steps buffer as little, or as much, as the policy allows
abbrev pub BuffersSo : Buffering → MpiProgram → List Step → Type 0
BuffersSo Least p steps = BuffersNoneByChoice p steps
BuffersSo Most p steps = BuffersAllItMay p steps

-- one of the two runs
abbrev pub IsBufferedRun : Buffering → MpiProgram → List Step → Type 0
IsBufferedRun Least p steps = IsLeastBufferedRun p steps
IsBufferedRun Most p steps = IsMostBufferedRun p steps
