-- What inner functions promise one another, beside `specs/FileLaws.antt`.
use Rattle.std.specs.Prelude.{codes, ◌≡◌, ◌≢◌, ℕ, List, ◌++◌, Option, Some, None, IsTrue}
use Rattle.clap.specs.Words.{Text}
use Rattle.command_line.specs.Requests.{AskFor, to_shrink}
use Rattle.session.specs.Endings.{SessionEnds}
use Rattle.session.specs.Runs.{PrintsAlone, SessionRun}
use Rattle.session.specs.Shrinking.{IsSmaller, IsUnhung}
use Rattle.shrinking.specs.Left.{AreLeft}
use Rattle.shrinking.specs.Mapping.{map_text}
use Rattle.shrinking.specs.Told.{left_text}

-- the text is printed, where no file is named for it; else the lines are told that tell a deadlock
-- and which lines are left, and that file holds it, as far as files tell what is written, unless
-- the map is written there too
abbrev pub IsHandedOver : SessionRun → Option Text → Option Text → List ℕ → List ℕ → Type 0
IsHandedOver run None map text lines = PrintsAlone run text 1
IsHandedOver run (Some file) map text lines =
    PrintsAlone run (codes "deadlock\n" ++ left_text lines) 1 × (IsTrue run.tells.writes → (map ≡ Some file → ⊥) → run.after file ≡ Some text)

-- the file that is named for the map holds it, in the same way
abbrev pub IsMapWritten : SessionRun → Option Text → List ℕ → Type 0
IsMapWritten run None places = Unit {0}
IsMapWritten run (Some file) places = IsTrue run.tells.writes → run.after file ≡ Some places

-- where words ask for a smaller program, and the run ended with the status 1, some run of the
-- program of the file ends stuck, and a program was handed over that has such a run too, and is no
-- larger, with the lines that are left in it and their map; with the status 2 some run of the
-- program finishes, or it is beyond the limits of `prove`, and its run that buffers least isn't
-- stuck; and none ends with the status 0
pub record ShrunkProgramHangs : Type 0 where
  pub smaller : (run : SessionRun) (p : Text) (out map : Option Text) (program : List ℕ) → SessionEnds run → AskFor run.words (to_shrink p out map)
      → run.before p ≡ Some program → run.status ≡ 1
      → (smaller : List ℕ) × (lines : List ℕ) × IsSmaller program smaller × AreLeft program smaller lines
      × IsHandedOver run out map smaller lines × IsMapWritten run map (map_text p smaller lines)
  pub finishes : (run : SessionRun) (p : Text) (out map : Option Text) (program : List ℕ) → SessionEnds run → AskFor run.words (to_shrink p out map)
      → run.before p ≡ Some program → run.status ≡ 2 → IsUnhung program
  pub never_safe : (run : SessionRun) (p : Text) (out map : Option Text) → SessionEnds run → AskFor run.words (to_shrink p out map) → run.status ≢ 0
