-- What follows from how a run of `decide` or `explain` for an SPMD text ended.
use Rattle.std.specs.Prelude.{◌≡◌, ◌≢◌, ◌≤◌, ◌<◌, ◌⊎◌, ℕ, Bool, IsTrue, true, List, map, Option, Some}
use Rattle.std.specs.List.{Contains}
use Rattle.clap.specs.Words.{Text}
use Rattle.calltext.specs.Grammar.{long}
use Rattle.semantics.specs.Headline.{IsNeverStuckWithin, IsStuckRunWithin}
use Rattle.semantics.specs.declared.state.Step.{Step}
use Rattle.options.specs.declared.form.Form.{Form}
use Rattle.spmd_program.specs.Ranges.{IsRange}
use Rattle.spmd_program.specs.Unrolling.{IsUnrolling}
use Rattle.junit.specs.Report.{Case, report_text}
use Rattle.command_line.specs.Requests.{AskFor, to_decide_each, to_decide_unrolled, to_explain_each, to_explain_unrolled}
use Rattle.session.specs.Endings.{SessionEnds}
use Rattle.session.specs.Runs.{SessionRun}
use Rattle.session.specs.Unrolling.{barriers_in}

-- for so many ranks the SPMD text is unrolled to a program that never gets stuck
pub record IsSafeFor (path source : List ℕ) (settings : List (List ℕ)) (barriers : Bool) (ranks : ℕ) : Type 0 where
  pub program : List ℕ
  pub map : List ℕ
  pub unrolled : IsUnrolling path source ranks settings barriers true program (Some map)
  pub never : IsNeverStuckWithin long program

-- for so many ranks it is unrolled to a program with a run that gets stuck
pub record HangsFor (path source : List ℕ) (settings : List (List ℕ)) (barriers : Bool) (ranks : ℕ) : Type 0 where
  pub program : List ℕ
  pub map : List ℕ
  pub unrolled : IsUnrolling path source ranks settings barriers true program (Some map)
  pub steps : List Step
  pub stuck : IsStuckRunWithin long program steps

-- the number of ranks is one of those that the text tells
pub record IsAmongRanks (text : List ℕ) (ranks : ℕ) : Type 0 where
  pub first : ℕ
  pub last : ℕ
  pub is_range : IsRange text first last
  pub above : first ≤ ranks
  pub below : ranks ≤ last

-- the words ask to decide, or to explain, what the SPMD text at a path is unrolled to for the
-- numbers of ranks that a text tells, with these settings, where collective calls wait so
abbrev pub AskUnrolled : List Text → Text → Text → List Text → Option Text → Type 0
AskUnrolled words p ranks settings way =
    ((beside : Bool) × (as_json : Bool) × AskFor words (to_decide_unrolled p (Some ranks) settings way beside as_json))
    ⊎ ((evidence : Option Text) × (workers : ℕ) × (depth : ℕ) × (budget : ℕ) × (form : Form) × (map : Option Text)
    × AskFor words (to_explain_unrolled p (Some ranks) settings way evidence workers depth budget form map))

-- A run with the status 0: for each of these numbers of ranks the program that the SPMD text is
-- unrolled to never gets stuck. One with the status 1: for one of them it has a run that does.
pub record UnrolledRunsAreRight : Type 0 where
  pub safe : (run : SessionRun) (p ranks : Text) (settings : List Text) (way : Option Text) (source : List ℕ) → SessionEnds run → AskUnrolled run.words p ranks settings way
      → run.before p ≡ Some source → run.status ≡ 0
      → (barriers : Bool) × (barriers_in way ≡ Some barriers) × (first : ℕ) × (last : ℕ) × IsRange ranks first last
      × ((number : ℕ) → first ≤ number → number ≤ last → IsSafeFor p source settings barriers number)
  pub stuck : (run : SessionRun) (p ranks : Text) (settings : List Text) (way : Option Text) (source : List ℕ) → SessionEnds run → AskUnrolled run.words p ranks settings way
      → run.before p ≡ Some source → run.status ≡ 1
      → (barriers : Bool) × (barriers_in way ≡ Some barriers) × (number : ℕ) × IsAmongRanks ranks number × HangsFor p source settings barriers number

-- the words ask to decide, or to explain, each of these programs, and to write a report to a file,
-- where one is named
abbrev pub AskEach : List Text → List Text → Option Text → Type 0
AskEach words programs junit =
    ((beside : Bool) × (as_json : Bool) × AskFor words (to_decide_each programs junit beside as_json))
    ⊎ ((workers : ℕ) × (depth : ℕ) × (budget : ℕ) × (form : Form) × (beside : Bool) × AskFor words (to_explain_each programs junit workers depth budget form beside))

-- A run for several programs with the status 0: none of these programs has a run that gets stuck,
-- as far as files are told. One with the status 1: one of them has. With a status below 4, the file
-- that is named holds a report of tests, one for each program, in their order. No other file
-- changes.
pub record EachRunIsRight : Type 0 where
  pub safe : (run : SessionRun) (programs : List Text) (junit : Option Text) (path : Text) (program : List ℕ) → SessionEnds run
      → AskEach run.words programs junit → run.status ≡ 0 → Contains programs path → run.before path ≡ Some program → IsNeverStuckWithin long program
  pub stuck : (run : SessionRun) (programs : List Text) (junit : Option Text) → SessionEnds run → AskEach run.words programs junit
      → run.status ≡ 1 → (path : Text) × Contains programs path
      × ((program : List ℕ) → run.before path ≡ Some program → (steps : List Step) × IsStuckRunWithin long program steps)
  pub reported : (run : SessionRun) (programs : List Text) (file : Text) → SessionEnds run → AskEach run.words programs (Some file)
      → IsTrue run.tells.writes → run.status < 4
      → (cases : List Case) × (map (λ c. c.name) cases ≡ programs) × (run.after file ≡ Some (report_text cases))
  pub others : (run : SessionRun) (programs : List Text) (junit : Option Text) (path : List ℕ) → SessionEnds run → AskEach run.words programs junit
      → junit ≢ Some path → run.after path ≡ run.before path
