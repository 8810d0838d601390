-- What follows from how a run of `join`, `phases` or `decide --phases` ended.
use Rattle.std.specs.Prelude.{◌≡◌, ◌≢◌, ◌⊎◌, ℕ, ◌+◌, ◌<◌, Bool, IsTrue, List, ◌++◌, length, codes, slice_get, Option, Some}
use Rattle.std.specs.Io.KnownBytes.{Appends}
use Rattle.clap.specs.Words.{Text}
use Rattle.calltext.specs.Grammar.{long}
use Rattle.semantics.specs.Headline.{IsNeverStuckWithin, IsStuckRunWithin}
use Rattle.semantics.specs.declared.state.Step.{Step}
use Rattle.deciding.specs.Decisions.{HasRace, schedule_text}
use Rattle.deciding.specs.declared.decision.CallerRace.{CallerRace}
use Rattle.command_line.specs.Requests.{AskFor, to_decide_phases, to_join, to_phases}
use Rattle.session.specs.Asking.{TellsDeadlock, TellsSafety}
use Rattle.session.specs.Endings.{SessionEnds}
use Rattle.session.specs.Phasing.{PhaseCut, IsPhaseCut, IsWhole, Part, count_jobs, cut_line, job_lines, order_lines, path_in, text_path}
use Rattle.session.specs.Runs.{SessionRun}
use Rattle.session.specs.Ties.{AreToldTies}

-- the words ask to judge the program at a path by phases in a folder, or by phases that are cut now
abbrev pub AskByPhases : List Text → Text → Option Text → Type 0
AskByPhases words p out =
    ((folder : Text) × (as_json : Bool) × AskFor words (to_join p folder out as_json))
    ⊎ ((progress : Bool) × (as_json : Bool) × AskFor words (to_decide_phases p out progress as_json))

-- A run that judges a program by phases tells no deadlock only where no run of the program gets
-- stuck, and a deadlock only where some run does; the schedule of such a run is in the file that is
-- named for it. No other file changes.
pub record PhasesAreJoined : Type 0 where
  pub safe : (run : SessionRun) (p : Text) (out : Option Text) (program : List ℕ) → SessionEnds run → AskByPhases run.words p out
      → run.before p ≡ Some program → TellsSafety run → IsNeverStuckWithin long program
  pub stuck : (run : SessionRun) (p : Text) (out : Option Text) (program : List ℕ) → SessionEnds run → AskByPhases run.words p out
      → run.before p ≡ Some program → TellsDeadlock run → (steps : List Step) × IsStuckRunWithin long program steps
  pub schedule : (run : SessionRun) (p file : Text) (program : List ℕ) → SessionEnds run → AskByPhases run.words p (Some file)
      → IsTrue run.tells.writes → run.before p ≡ Some program → run.status ≡ 1
      → (steps : List Step) × IsStuckRunWithin long program steps × (run.after file ≡ Some (schedule_text steps))
  pub others : (run : SessionRun) (p : Text) (out : Option Text) (path : List ℕ) → SessionEnds run → AskByPhases run.words p out
      → out ≢ Some path → run.after path ≡ run.before path

-- A run that cuts a program changes no file but those in the folder that is named.
abbrev pub CutsStayInFolder : Type 0
CutsStayInFolder =
    (run : SessionRun) (p folder : Text) (path : List ℕ) → SessionEnds run → AskFor run.words (to_phases p folder)
    → ((name : List ℕ) → path ≢ path_in folder name) → run.after path ≡ run.before path

-- The run left a cut of the program in the folder, and printed its numbers, and below them a line
-- for each of some ties of the program: a call that takes any source, and a send that fits it.
-- Where the files tell what is written, each different phase's file has its text, `jobs` the paths
-- of those that have to be proved, and `phases` the order. No other file has changed.
pub record HasLeftCut (run : SessionRun) (folder : Text) (program : List ℕ) : Type 0 where
  pub cut : PhaseCut
  pub is : IsPhaseCut cut
  pub whole : IsWhole program cut
  pub told : List ℕ
  pub ties : AreToldTies program whole.p told
  pub printed : Appends run.out_before run.out_after (cut_line (length cut.order) (length cut.parts) (count_jobs cut.parts) ++ told)
  pub texts : IsTrue run.tells.writes → (place : ℕ) (part : Part) → slice_get cut.parts place ≡ Some part
      → run.after (text_path folder (place + 1)) ≡ Some part.text
  pub jobs : IsTrue run.tells.writes → run.after (path_in folder (codes "jobs")) ≡ Some (job_lines folder 1 cut.parts)
  pub order : IsTrue run.tells.writes → run.after (path_in folder (codes "phases")) ≡ Some (order_lines cut.order)
  pub others : (path : List ℕ) → ((place : ℕ) → place < length cut.parts → path ≢ text_path folder (place + 1))
      → path ≢ path_in folder (codes "jobs") → path ≢ path_in folder (codes "phases") → run.after path ≡ run.before path

-- A run that cuts a program and ends with the status 0: no run of the program gets stuck, and no
-- file has changed; or messages of its one run may race, and a cut is left.
abbrev pub CutsAreWritten : Type 0
CutsAreWritten =
    (run : SessionRun) (p folder : Text) (program : List ℕ) → SessionEnds run → AskFor run.words (to_phases p folder)
    → run.before p ≡ Some program → run.status ≡ 0
    → (IsNeverStuckWithin long program × (run.after ≡ run.before)) ⊎ ((race : CallerRace) × HasRace program race × HasLeftCut run folder program)
