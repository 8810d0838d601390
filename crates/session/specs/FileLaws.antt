-- What follows from how a run of `export`, `trim` or `shrink` ended.
use Rattle.std.specs.Prelude.{◌≡◌, ◌≢◌, ℕ, Bool, false, List, Some, IsTrue}
use Rattle.clap.specs.Words.{Text}
use Rattle.checker.specs.Headline.{IsNeverStuck}
use Rattle.checker.specs.Verdicts.{RefutesProgram}
use Rattle.reports.specs.Exports.{Exports}
use Rattle.reports.specs.Trimming.{Shortens}
use Rattle.reports.specs.declared.trimmed.Shortened.{Shortened}
use Rattle.command_line.specs.Requests.{AskFor, to_export, to_trim}
use Rattle.session.specs.Asking.{TellsSafety}
use Rattle.session.specs.Endings.{SessionEnds}
use Rattle.session.specs.Lines.{deadlock_line, line_text, lines_words, no_deadlock_line}
use Rattle.session.specs.Runs.{PrintsAlone, SessionRun}

-- ---- export

-- an export that told that there is no deadlock: no run of the program ends stuck
abbrev pub ExportedSafetyIsTrue : Type 0
ExportedSafetyIsTrue =
    (run : SessionRun) (p e out : Text) (program : List ℕ) → SessionEnds run → AskFor run.words (to_export p e out)
    → run.before p ≡ Some program → TellsSafety run → IsNeverStuck program

-- and the file holds afterwards a proof of the formula of the program, if its set tells what is
-- written
abbrev pub ExportedProofIsWritten : Type 0
ExportedProofIsWritten =
    (run : SessionRun) (p e out : Text) (program evidence : List ℕ) → SessionEnds run → AskFor run.words (to_export p e out)
    → IsTrue run.tells.writes → run.before p ≡ Some program → run.before e ≡ Some evidence → TellsSafety run
    → (text : List ℕ) × (run.after out ≡ Some text) × Exports program evidence text

-- an export with the status 0 printed the line that tells that there is no deadlock, and one with
-- the status 1 the line that tells one, and then no file has changed
pub record ExportedAnswerIsPrinted : Type 0 where
  pub safety : (run : SessionRun) (p e out : Text) → SessionEnds run → AskFor run.words (to_export p e out)
      → run.status ≡ 0 → PrintsAlone run (no_deadlock_line false) 0
  pub deadlock : (run : SessionRun) (p e out : Text) → SessionEnds run → AskFor run.words (to_export p e out)
      → run.status ≡ 1 → (run.after ≡ run.before) × PrintsAlone run (deadlock_line false) 1

-- ---- trim

-- a run of `trim` with the status 0 printed the numbers of lines before and after, as JSON where
-- the words ask for that, and the file holds afterwards the refutation without the lines that are
-- not needed, if its set tells what is written; so it refutes each program that the evidence
-- refutes; and none ends with the status 1
pub record TrimmedRefutationIsWritten : Type 0 where
  pub written : (run : SessionRun) (e out : Text) (as_json : Bool) (evidence : List ℕ) → SessionEnds run → AskFor run.words (to_trim e out as_json)
      → IsTrue run.tells.writes → run.before e ≡ Some evidence → run.status ≡ 0
      → (s : Shortened) × Shortens evidence s × (run.after out ≡ Some s.text.items)
      × ((program : List ℕ) → RefutesProgram program evidence → RefutesProgram program s.text.items)
      × PrintsAlone run (line_text as_json (lines_words s.before s.after) 0) 0
  pub never_stuck : (run : SessionRun) (e out : Text) (as_json : Bool) → SessionEnds run → AskFor run.words (to_trim e out as_json) → run.status ≢ 1
