-- What is told of a program's text: that no run of its program gets stuck, or a run that does.
use Rattle.std.specs.Prelude.{ℕ, List}
use Rattle.calltext.specs.declared.limits.Limits.{Limits}
use Rattle.callorder.specs.Programs.{MpiProgram}
use Rattle.callorder.specs.Resolving.{IsTextOfWithin}
use Rattle.semantics.specs.declared.state.Step.{Step}
use Rattle.semantics.specs.Machine.{IsStuckRun}

-- no list of steps is a run of the program that ends where a rank is unfinished and no step is
-- enabled
abbrev pub NoStuckRun : MpiProgram → Type 0
NoStuckRun p = (steps : List Step) → IsStuckRun p steps → ⊥

-- The bytes are, within the limits, the text of a program, and no run of it gets stuck.
pub record IsNeverStuckWithin (l : Limits) (program : List ℕ) : Type 0 where
  pub p : MpiProgram
  pub text : IsTextOfWithin l program p
  pub never : NoStuckRun p

-- The bytes are, within the limits, the text of a program, and the steps are a run of it that ends
-- where a rank is unfinished and no step is enabled.
pub record IsStuckRunWithin (l : Limits) (program : List ℕ) (steps : List Step) : Type 0 where
  pub p : MpiProgram
  pub text : IsTextOfWithin l program p
  pub stuck : IsStuckRun p steps
