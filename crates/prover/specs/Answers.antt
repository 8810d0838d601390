-- What the prover's answers say of a program's text.
use Rattle.std.specs.Prelude.{◌≡◌, ◌≢◌, ◌⊎◌, ◌<◌, ◌||◌, ℕ, IsTrue, List}
use Rattle.callorder.specs.Programs.{MpiProgram}
use Rattle.callorder.specs.Resolving.{IsTextOf}
use Rattle.pool.specs.declared.why.Why.TheVariants as whys
use Rattle.semantics.specs.declared.state.Step.{Step}
use Rattle.semantics.specs.RunEnds.{IsFinishedRun}
use Rattle.semantics.specs.Machine.{IsStuckRun}
use Rattle.checker.specs.declared.reason.Reason.{Reason}
use Rattle.checker.specs.declared.reason.Reason.TheVariants as reasons
use Rattle.checker.specs.Headline.{IsNeverStuck, Shows}
use Rattle.checker.specs.Verdicts.{RefutesProgram, HasFormula, HasNoFormula, IsProgramReason}
use Rattle.prover.specs.declared.answer.Answer.{Answer}
use Rattle.prover.specs.declared.answer.Answer.TheVariants as answers
use Rattle.prover.specs.declared.ends.WalkEnds.{WalkEnds}

-- why a program's text has no formula's text: it is refused, or its program has no formula within
-- the limits
abbrev pub HasNoFormulaText : List ℕ → Reason → Type 0
HasNoFormulaText program reason = IsProgramReason program reason ⊎ ((p : MpiProgram) × IsTextOf program p × HasNoFormula reason p)

-- Where there is no deadlock, no run of the program ends stuck, and the evidence is the text of a
-- refutation of its formula. A deadlock comes with the text of a schedule that is a run of the
-- program that ends stuck. Each evidence is such that the checker accepts it, want of memory aside.
-- A program is refused for a fault of its own text, or as one whose formula is beyond a limit, and
-- never for want of memory. Where no answer is known, the reason is want of memory; or the text is
-- a program's, whose formula is within the limits.
abbrev pub IsAnswer : List ℕ → Answer → Type 0
IsAnswer program (answers.NoDeadlock evidence) = IsNeverStuck program × RefutesProgram program evidence
IsAnswer program (answers.Deadlock evidence) = Shows program evidence
IsAnswer program (answers.Unknown why) = (why ≡ whys.Memory) ⊎ ((p : MpiProgram) × IsTextOf program p × HasFormula p)
IsAnswer program (answers.Refused reason) = HasNoFormulaText program reason × (reason ≢ reasons.Memory)

-- some run of the program ends with all ranks finished
pub record CanFinish (program : List ℕ) : Type 0 where
  pub p : MpiProgram
  pub steps : List Step
  pub text : IsTextOf program p
  pub finished : IsFinishedRun p steps

-- some run of the program ends stuck
pub record CanHang (program : List ℕ) : Type 0 where
  pub p : MpiProgram
  pub steps : List Step
  pub text : IsTextOf program p
  pub stuck : IsStuckRun p steps

-- Where some walk is told to have ended stuck, some run of the program ends stuck; where some is
-- told to have ended finished, some run ends with all ranks finished. One of the two is told.
pub record AreWalkEnds (program : List ℕ) (ends : WalkEnds) : Type 0 where
  pub hangs : IsTrue ends.stuck → CanHang program
  pub finishes : IsTrue ends.finished → CanFinish program
  pub some : IsTrue (ends.stuck || ends.finished)

-- Where no answer is known for another reason than want of memory, and there was a budget to search
-- with, some run of the program ends with all ranks finished.
abbrev pub FinishesIfUnknown : ℕ → List ℕ → Answer → Type 0
FinishesIfUnknown budget program (answers.Unknown why) = (why ≡ whys.Memory) ⊎ (0 < budget → CanFinish program)
FinishesIfUnknown budget program (answers.NoDeadlock evidence) = Unit {0}
FinishesIfUnknown budget program (answers.Deadlock evidence) = Unit {0}
FinishesIfUnknown budget program (answers.Refused reason) = Unit {0}
