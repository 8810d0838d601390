-- What follows from how a run of `prove`, `explain` or `decide` ended.
use Rattle.std.specs.Prelude.{◌≡◌, ◌<◌, ◌⊎◌, ℕ, Bool, List, Option, Some, None, IsTrue}
use Rattle.clap.specs.Words.{Text}
use Rattle.calltext.specs.Grammar.{long}
use Rattle.semantics.specs.Headline.{IsNeverStuckWithin, IsStuckRunWithin}
use Rattle.semantics.specs.declared.state.Step.{Step}
use Rattle.deciding.specs.Decisions.{HasRace, schedule_text}
use Rattle.deciding.specs.declared.decision.CallerRace.{CallerRace}
use Rattle.options.specs.declared.form.Form.{Form}
use Rattle.checker.specs.Headline.{IsNeverStuck, Shows}
use Rattle.checker.specs.Verdicts.{RefutesProgram}
use Rattle.checker.specs.declared.reason.Reason.{Reason}
use Rattle.prover.specs.Answers.{IsAnswer, CanFinish}
use Rattle.prover.specs.declared.answer.Answer.TheVariants as answers
use Rattle.command_line.specs.Requests.{AskFor, to_decide}
use Rattle.session.specs.Asking.{AskToExplain, AskToExplainBy, AskToProve, DeadlockIsShown, TellsDeadlock, TellsSafety, TellsUnknown}
use Rattle.session.specs.Endings.{IsFollowed, SessionEnds}
use Rattle.session.specs.Lines.{deadlock_line, no_deadlock_line}
use Rattle.session.specs.Runs.{PrintsAlone, SessionRun}

-- ---- prove

-- a search that told a deadlock: some evidence shows a stuck run of the program
abbrev pub ProvedDeadlockIsShown : Type 0
ProvedDeadlockIsShown =
    (run : SessionRun) (p : Text) (out : Option Text) (budget : ℕ) (progress as_json : Bool) (program : List ℕ)
    → SessionEnds run → AskToProve run.words p out budget progress as_json → run.before p ≡ Some program
    → TellsDeadlock run → (evidence : List ℕ) × Shows program evidence

-- and where a file is named, it holds such an evidence afterwards, if its set tells what is written
abbrev pub WrittenDeadlockIsShown : Type 0
WrittenDeadlockIsShown =
    (run : SessionRun) (p file : Text) (budget : ℕ) (progress as_json : Bool) (program : List ℕ)
    → SessionEnds run → AskToProve run.words p (Some file) budget progress as_json → IsTrue run.tells.writes → run.before p ≡ Some program
    → TellsDeadlock run → (evidence : List ℕ) × (run.after file ≡ Some evidence) × Shows program evidence

-- a search that told that there is no deadlock: no run of the program ends stuck
abbrev pub ProvedSafetyIsTrue : Type 0
ProvedSafetyIsTrue =
    (run : SessionRun) (p : Text) (out : Option Text) (budget : ℕ) (progress as_json : Bool) (program : List ℕ)
    → SessionEnds run → AskToProve run.words p out budget progress as_json → run.before p ≡ Some program
    → TellsSafety run → IsNeverStuck program

-- and where a file is named, it holds afterwards an evidence that refutes the program, if its set
-- tells what is written
abbrev pub WrittenSafetyIsRefuted : Type 0
WrittenSafetyIsRefuted =
    (run : SessionRun) (p file : Text) (budget : ℕ) (progress as_json : Bool) (program : List ℕ)
    → SessionEnds run → AskToProve run.words p (Some file) budget progress as_json → IsTrue run.tells.writes → run.before p ≡ Some program
    → TellsSafety run → (evidence : List ℕ) × (run.after file ≡ Some evidence) × RefutesProgram program evidence

-- a search with the status 0 printed the line that tells that there is no deadlock, as JSON where
-- the words ask for that, and before that told its progress on standard error, where they ask for
-- it, and else nothing
abbrev pub ProvedSafetyIsPrinted : Type 0
ProvedSafetyIsPrinted =
    (run : SessionRun) (p : Text) (out : Option Text) (budget : ℕ) (progress as_json : Bool)
    → SessionEnds run → AskToProve run.words p out budget progress as_json → run.status ≡ 0
    → (told : Option (List ℕ)) × IsFollowed progress run.tells.terminal run.errors_before told
    × PrintsAlone (record run { errors_before = told }) (no_deadlock_line as_json) 0

-- and one with the status 1 the line that tells a deadlock
abbrev pub ProvedDeadlockIsPrinted : Type 0
ProvedDeadlockIsPrinted =
    (run : SessionRun) (p : Text) (out : Option Text) (budget : ℕ) (progress as_json : Bool)
    → SessionEnds run → AskToProve run.words p out budget progress as_json → run.status ≡ 1
    → (told : Option (List ℕ)) × IsFollowed progress run.tells.terminal run.errors_before told
    × PrintsAlone (record run { errors_before = told }) (deadlock_line as_json) 1

-- a search with a budget above 0 that told that no answer is known, for another reason than want of
-- memory: some run of the program ends with all ranks finished
abbrev pub ProvedUnknownFinishes : Type 0
ProvedUnknownFinishes =
    (run : SessionRun) (p : Text) (out : Option Text) (budget : ℕ) (progress as_json : Bool) (program : List ℕ)
    → SessionEnds run → AskToProve run.words p out budget progress as_json → 0 < budget → run.before p ≡ Some program
    → TellsUnknown run → CanFinish program

-- ---- explain

-- an explanation that told a deadlock: the evidence that is named shows a stuck run of the program;
-- and where none is named, some steps are a run of the program, of any length, that gets stuck
pub record ExplainedDeadlockIsShown : Type 0 where
  pub given : (form : Form) → DeadlockIsShown (AskToExplainBy form)
  pub found : (run : SessionRun) (p : Text) (budget : ℕ) (form : Form) (program : List ℕ) → SessionEnds run → AskToExplain run.words p None budget form
      → run.before p ≡ Some program → TellsDeadlock run → (steps : List Step) × IsStuckRunWithin long program steps

-- an explanation with the status 0: no run of the program ends stuck, and where no evidence is
-- named it may have any length
pub record ExplainedSafetyIsTrue : Type 0 where
  pub given : (run : SessionRun) (p e : Text) (budget : ℕ) (form : Form) (program : List ℕ) → SessionEnds run
      → AskToExplain run.words p (Some e) budget form → run.before p ≡ Some program → run.status ≡ 0 → IsNeverStuck program
  pub found : (run : SessionRun) (p : Text) (budget : ℕ) (form : Form) (program : List ℕ) → SessionEnds run
      → AskToExplain run.words p None budget form → run.before p ≡ Some program → run.status ≡ 0 → IsNeverStuckWithin long program

-- one with the status 2 was given no evidence, and its program has a race; where its budget was
-- above 0 and the program isn't too large for a search, some run of it ends with all ranks finished
abbrev pub ExplainedUnknownFinishes : Type 0
ExplainedUnknownFinishes =
    (run : SessionRun) (p : Text) (e : Option Text) (budget : ℕ) (form : Form) (program : List ℕ)
    → SessionEnds run → AskToExplain run.words p e budget form → 0 < budget → run.before p ≡ Some program → run.status ≡ 2
    → (e ≡ None) × ((race : CallerRace) × HasRace program race) × (CanFinish program ⊎ ((reason : Reason) × IsAnswer program (answers.Refused reason)))

-- ---- decide

-- Where words ask to decide a program: if the run told a deadlock, steps are a run of the program
-- that gets stuck, and with the status 1 the file that is named for them holds their text, as far
-- as files tell what is written; if it told that there is none, no run of the program gets stuck;
-- and with the status 2 the program has a call that takes any source, and two sends of different
-- ranks that fit it.
pub record DecidedRunsAreRight : Type 0 where
  pub deadlock : (run : SessionRun) (p : Text) (out : Option Text) (progress as_json : Bool) (program : List ℕ) → SessionEnds run
      → AskFor run.words (to_decide p out progress as_json) → run.before p ≡ Some program
      → TellsDeadlock run → (steps : List Step) × IsStuckRunWithin long program steps
  pub written : (run : SessionRun) (p file : Text) (progress as_json : Bool) (program : List ℕ) → SessionEnds run
      → AskFor run.words (to_decide p (Some file) progress as_json) → IsTrue run.tells.writes → run.before p ≡ Some program → run.status ≡ 1
      → (steps : List Step) × IsStuckRunWithin long program steps × (run.after file ≡ Some (schedule_text steps))
  pub never : (run : SessionRun) (p : Text) (out : Option Text) (progress as_json : Bool) (program : List ℕ) → SessionEnds run
      → AskFor run.words (to_decide p out progress as_json) → run.before p ≡ Some program → TellsSafety run → IsNeverStuckWithin long program
  pub race : (run : SessionRun) (p : Text) (out : Option Text) (progress as_json : Bool) (program : List ℕ) → SessionEnds run
      → AskFor run.words (to_decide p out progress as_json) → run.before p ≡ Some program → run.status ≡ 2 → (race : CallerRace) × HasRace program race
