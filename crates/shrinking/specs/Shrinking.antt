-- What a smaller text keeps, and why there is none.
use Rattle.std.specs.Prelude.{ℕ, ◌≤◌, ◌==◌, ◌⊎◌, List, length}
use Rattle.std.specs.List.{count_by}
use Rattle.calltext.specs.Grammar.{long}
use Rattle.semantics.specs.Headline.{IsStuckRunWithin}
use Rattle.semantics.specs.declared.state.Step.{Step}
use Rattle.checker.specs.Verdicts.{IsProgramReason}
use Rattle.prover.specs.Answers.{CanHang, CanFinish}
use Rattle.shrinking.specs.declared.driving.NotShrunk.{NotShrunk}
use Rattle.deciding.specs.Decisions.{Decides, HasRace, IsUndecided}
use Rattle.deciding.specs.declared.decision.Decision.TheVariants as decisions
use Rattle.deciding.specs.declared.decision.CallerRace.{CallerRace}
use Rattle.shrinking.specs.declared.driving.NotShrunk.TheVariants.{NothingHangs, Refused}
use Rattle.shrinking.specs.declared.halving.NotShrunkLong.{NotShrunkLong}
use Rattle.shrinking.specs.declared.halving.NotShrunkLong.TheVariants as long_reasons

-- how many lines a text has: how many LFs
abbrev pub count_lines : List ℕ → ℕ
count_lines text = count_by (λ byte. byte == 10) text

-- The smaller text is a program's that has a run that ends stuck. It is no longer than the other
-- one, and has no more lines.
pub record IsShrunk (text smaller : List ℕ) : Type 0 where
  pub hangs : CanHang smaller
  pub bytes : length smaller ≤ length text
  pub lines : count_lines smaller ≤ count_lines text

-- Why there is no smaller text: some run of the program ends with all ranks finished; or the text
-- is refused, for the first fault of a program's text, or for want of memory.
abbrev pub IsNotShrunk : List ℕ → NotShrunk → Type 0
IsNotShrunk text NothingHangs = CanFinish text
IsNotShrunk text (Refused reason) = IsProgramReason text reason

-- ---- texts of any length

-- within the long limits the text is a program's, and some run of it ends stuck
abbrev pub CanHangLong : List ℕ → Type 0
CanHangLong text = (steps : List Step) × IsStuckRunWithin long text steps

-- The smaller text is within the long limits a program's that has a run that ends stuck. It is no
-- longer than the other one, and has no more lines.
pub record IsShrunkLong (text smaller : List ℕ) : Type 0 where
  pub hangs : CanHangLong smaller
  pub bytes : length smaller ≤ length text
  pub lines : count_lines smaller ≤ count_lines text

-- one run of the text's program finishes: so no run of it gets stuck, or messages may race for a
-- call
abbrev pub IsNotStuckLong : List ℕ → Type 0
IsNotStuckLong text = Decides text decisions.NoDeadlock ⊎ ((race : CallerRace) × HasRace text race)

-- Why there is no smaller text within the long limits: the run that buffers least isn't stuck; or
-- the text isn't decided, for its first fault, or for want of memory.
abbrev pub IsNotShrunkLong : List ℕ → NotShrunkLong → Type 0
IsNotShrunkLong text long_reasons.NothingHangs = IsNotStuckLong text
IsNotShrunkLong text (long_reasons.Undecided why) = IsUndecided text why
