-- The headline: what the two verdicts promise of a program's text and an evidence's text.
use Rattle.std.specs.Prelude.{ℕ, List}
use Rattle.callorder.specs.Programs.{MpiProgram}
use Rattle.callorder.specs.Resolving.{IsTextOf}
use Rattle.semantics.specs.declared.state.Step.{Step}
use Rattle.calltext.specs.Grammar.{short}
use Rattle.semantics.specs.Headline.{IsNeverStuckWithin}
use Rattle.semantics.specs.Machine.{IsStuckRun}
use Rattle.prooflog.specs.Steps.{IsScheduleText}

-- The program's bytes are the text of a program, and no list of steps is a run of it that ends
-- where a rank is unfinished and no step is enabled.
abbrev pub IsNeverStuck : List ℕ → Type 0
IsNeverStuck = IsNeverStuckWithin short

-- The program's bytes are the text of a program, the evidence's bytes are the text of a schedule,
-- and the schedule is a run of that program that ends where a rank is unfinished and no step is
-- enabled.
pub record Shows (program evidence : List ℕ) : Type 0 where
  pub p : MpiProgram
  pub steps : List Step
  pub text : IsTextOf program p
  pub schedule : IsScheduleText evidence steps
  pub stuck : IsStuckRun p steps
