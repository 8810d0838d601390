-- What follows from how a run of `check`, `replay` or `encode` ended.
use Rattle.std.specs.Prelude.{◌≡◌, ◌≢◌, ◌⊎◌, ℕ, Bool, List, Some, IsTrue}
use Rattle.clap.specs.Words.{Text}
use Rattle.checker.specs.Headline.{IsNeverStuck, Shows}
use Rattle.checker.specs.Verdicts.{RefutesProgram}
use Rattle.reports.specs.Telling.{TellsRun}
use Rattle.command_line.specs.Requests.{AskFor, to_encode}
use Rattle.session.specs.Asking.{AskToCheck, AskToReplay, DeadlockIsShown, ShownIsTold, TellsSafety}
use Rattle.session.specs.Endings.{SessionEnds}
use Rattle.session.specs.Lines.{deadlock_line, no_deadlock_line}
use Rattle.session.specs.Pages.{HasTextOfFormula}
use Rattle.session.specs.Runs.{PrintsAlone, SessionRun}

-- ---- check

-- a check that told a deadlock
abbrev pub CheckedDeadlockIsShown : Type 0
CheckedDeadlockIsShown = (as_json : Bool) → DeadlockIsShown (AskToCheck as_json)

-- a check of an evidence that shows a stuck run
abbrev pub ShownDeadlockIsChecked : Type 0
ShownDeadlockIsChecked = (as_json : Bool) → ShownIsTold (AskToCheck as_json)

-- where words ask for a check, and the run told that there is no deadlock, no run of the program
-- ends stuck
abbrev pub CheckedSafetyIsTrue : Type 0
CheckedSafetyIsTrue =
    (run : SessionRun) (as_json : Bool) (p e : Text) (program : List ℕ) → SessionEnds run → AskToCheck as_json run.words p e
    → run.before p ≡ Some program → TellsSafety run → IsNeverStuck program

-- where the evidence refutes the program, the status of a check is 0, or 4 for want of memory, or 5
-- for a file or an output that fails
abbrev pub RefutedIsChecked : Type 0
RefutedIsChecked =
    (run : SessionRun) (as_json : Bool) (p e : Text) (program evidence : List ℕ) → SessionEnds run → AskToCheck as_json run.words p e
    → run.before p ≡ Some program → run.before e ≡ Some evidence → RefutesProgram program evidence
    → (run.status ≡ 0) ⊎ ((run.status ≡ 4) ⊎ (run.status ≡ 5))

-- a check with the status 0 printed the line that tells that there is no deadlock, as JSON where
-- the words ask for that
abbrev pub CheckedSafetyIsPrinted : Type 0
CheckedSafetyIsPrinted =
    (run : SessionRun) (as_json : Bool) (p e : Text) → SessionEnds run → AskToCheck as_json run.words p e
    → run.status ≡ 0 → PrintsAlone run (no_deadlock_line as_json) 0

-- and one with the status 1 the line that tells one
abbrev pub CheckedDeadlockIsPrinted : Type 0
CheckedDeadlockIsPrinted =
    (run : SessionRun) (as_json : Bool) (p e : Text) → SessionEnds run → AskToCheck as_json run.words p e
    → run.status ≡ 1 → PrintsAlone run (deadlock_line as_json) 1

-- where both files of a check are told to be read, none of them is told as failed
abbrev pub ReadFilesAreNotBlamed : Type 0
ReadFilesAreNotBlamed =
    (run : SessionRun) (as_json : Bool) (p e : Text) → SessionEnds run → AskToCheck as_json run.words p e
    → IsTrue (run.tells.reads p) → IsTrue (run.tells.reads e) → run.status ≡ 5 → run.errors_after ≡ run.errors_before

-- ---- replay

-- a replay that told a deadlock
abbrev pub ReplayedDeadlockIsShown : Type 0
ReplayedDeadlockIsShown = (lines : Bool) → DeadlockIsShown (AskToReplay lines)

-- a replay of an evidence that shows a stuck run
abbrev pub ShownDeadlockIsReplayed : Type 0
ShownDeadlockIsReplayed = (lines : Bool) → ShownIsTold (AskToReplay lines)

-- a replay with the status 1 printed the run that the evidence shows, by the numbers of calls or by
-- lines, and none ends with the status 0
pub record ReplayedRunIsPrinted : Type 0 where
  pub printed : (run : SessionRun) (lines : Bool) (p e : Text) (program evidence : List ℕ) → SessionEnds run → AskToReplay lines run.words p e
      → run.before p ≡ Some program → run.before e ≡ Some evidence → run.status ≡ 1
      → (shown : Shows program evidence) × (text : List ℕ) × TellsRun lines program shown.p shown.steps text × PrintsAlone run text 1
  pub never_safe : (run : SessionRun) (lines : Bool) (p e : Text) → SessionEnds run → AskToReplay lines run.words p e → run.status ≢ 0

-- ---- encode

-- with the status 0 the text of the program's formula was printed, in the DIMACS format where the
-- words ask for that, and none ends with the status 1
pub record EncodedFormulaIsPrinted : Type 0 where
  pub formula : (run : SessionRun) (p : Text) (dimacs : Bool) (program : List ℕ) → SessionEnds run → AskFor run.words (to_encode p dimacs)
      → run.before p ≡ Some program → run.status ≡ 0 → (text : List ℕ) × HasTextOfFormula dimacs program text × PrintsAlone run text 0
  pub never_stuck : (run : SessionRun) (p : Text) (dimacs : Bool) → SessionEnds run → AskFor run.words (to_encode p dimacs) → run.status ≢ 1
