-- What follows from how a run of `unroll` ended.
use Rattle.std.specs.Prelude.{◌≡◌, ◌≢◌, ℕ, Bool, true, false, is_some, List, Option, Some, None, IsTrue}
use Rattle.clap.specs.Words.{Text}
use Rattle.spmd_program.specs.Unrolling.{IsRefusal, IsUnrolling}
use Rattle.command_line.specs.Requests.{AskFor, to_unroll}
use Rattle.session.specs.Endings.{SessionEnds}
use Rattle.session.specs.Runs.{PrintsAlone, SessionRun}
use Rattle.session.specs.Unrolling.{barriers_in, refused_text}

-- A run of `unroll` with the status 0 printed the text of the program that the SPMD text of the
-- file is unrolled to: its call lines are the calls of the meaning of that text, with these
-- settings and for so many ranks. Where a file is named for the program, it holds that text
-- afterwards, if its set tells what is written, unless the map goes to the same file; and one that
-- is named for the map holds that. A run
-- with the status 3 told what is wrong with the SPMD text, and no file has changed; and none ends
-- with the status 1 or 2.
pub record UnrolledTextIsPrinted : Type 0 where
  pub printed : (run : SessionRun) (p : Text) (ranks : ℕ) (settings : List Text) (way map : Option Text) (source : List ℕ)
      → SessionEnds run → AskFor run.words (to_unroll p ranks settings way None map) → run.before p ≡ Some source → run.status ≡ 0
      → (barriers : Bool) × (barriers_in way ≡ Some barriers)
      × (program : List ℕ) × (made : Option (List ℕ)) × IsUnrolling p source ranks settings barriers (is_some map) program made × PrintsAlone run program 0
  pub written : (run : SessionRun) (p file : Text) (ranks : ℕ) (settings : List Text) (way map : Option Text) (source : List ℕ)
      → SessionEnds run → AskFor run.words (to_unroll p ranks settings way (Some file) map) → IsTrue run.tells.writes → map ≢ Some file
      → run.before p ≡ Some source → run.status ≡ 0
      → (barriers : Bool) × (barriers_in way ≡ Some barriers)
      × (program : List ℕ) × (made : Option (List ℕ)) × IsUnrolling p source ranks settings barriers (is_some map) program made × (run.after file ≡ Some program)
  pub mapped : (run : SessionRun) (p file : Text) (ranks : ℕ) (settings : List Text) (way out : Option Text) (source : List ℕ)
      → SessionEnds run → AskFor run.words (to_unroll p ranks settings way out (Some file)) → IsTrue run.tells.writes → run.before p ≡ Some source → run.status ≡ 0
      → (barriers : Bool) × (barriers_in way ≡ Some barriers)
      × (program : List ℕ) × (map : List ℕ) × IsUnrolling p source ranks settings barriers true program (Some map) × (run.after file ≡ Some map)
  pub refused : (run : SessionRun) (p : Text) (ranks : ℕ) (settings : List Text) (way out map : Option Text) (source : List ℕ)
      → SessionEnds run → AskFor run.words (to_unroll p ranks settings way out map) → run.before p ≡ Some source → run.status ≡ 3
      → (barriers : Bool) × (barriers_in way ≡ Some barriers)
      × (told : List ℕ) × IsRefusal p source ranks settings barriers told × (run.after ≡ run.before) × PrintsAlone run (refused_text told) 3
  pub undecided : (run : SessionRun) (p : Text) (ranks : ℕ) (settings : List Text) (way out map : Option Text)
      → SessionEnds run → AskFor run.words (to_unroll p ranks settings way out map) → (run.status ≢ 1) × (run.status ≢ 2)
