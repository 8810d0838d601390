-- One run of the program, and what it prints.
use Rattle.std.specs.Prelude.{◌≡◌, ◌⊎◌, ℕ, Bool, List, Option}
use Rattle.std.specs.Io.KnownBytes.{Appends}
use Rattle.clap.specs.Words.{Text}
use Rattle.files.specs.Contents.{AppendsPart}
use Rattle.progress.specs.Telling.{AppendsAtMost}
use Rattle.session.specs.Lines.{file_line, memory_line}
use Rattle.session.specs.declared.page.Want.{Want}

-- what a set of files tells: whether it tells the bytes that are written, and which files it reads
-- whole unless memory runs out; and whether standard error is a terminal
pub record FilesTold : Type 0 where
  pub writes : Bool
  pub reads : List ℕ → Bool
  pub terminal : Bool

-- One run of the program: its words, what its files tell, what they hold by their paths before and
-- after it, what standard output and standard error have before and after it, and its exit status.
pub record SessionRun : Type 0 where
  pub words : List Text
  pub tells : FilesTold
  pub before : List ℕ → Option (List ℕ)
  pub after : List ℕ → Option (List ℕ)
  pub out_before : Option (List ℕ)
  pub out_after : Option (List ℕ)
  pub errors_before : Option (List ℕ)
  pub errors_after : Option (List ℕ)
  pub status : ℕ

-- all of a text is printed, and the status is its own; or the output failed within the text, and
-- the status is 5
abbrev pub Prints : SessionRun → List ℕ → ℕ → Type 0
Prints run text own =
    ((run.status ≡ own) × Appends run.out_before run.out_after text) ⊎ ((run.status ≡ 5) × AppendsPart run.out_before run.out_after text)

-- the same of standard output, while standard error stays as it was
abbrev pub PrintsAlone : SessionRun → List ℕ → ℕ → Type 0
PrintsAlone run text own = Prints run text own × (run.errors_after ≡ run.errors_before)

-- the text is told on standard error, or a beginning of it where standard error failed, with this
-- status, while standard output stays as it was
abbrev pub Complains : SessionRun → List ℕ → ℕ → Type 0
Complains run text own = (run.status ≡ own) × (run.out_after ≡ run.out_before) × AppendsAtMost run.errors_before run.errors_after text

-- the same, of any page of this kind and one of these files; where want of memory is told all files
-- are as before
pub data Ends (run : SessionRun) (IsPage : List ℕ → ℕ → Type 0) (IsFile : List ℕ → Type 0) (want : Want) (json : Bool) : Type 0 where
  by_page : (text : List ℕ) (own : ℕ) → IsPage text own → PrintsAlone run text own → Ends run IsPage IsFile want json
  by_memory : run.after ≡ run.before → PrintsAlone run (memory_line want json) 4 → Ends run IsPage IsFile want json
  by_file : (path : List ℕ) → IsFile path → Complains run (file_line path) 5 → Ends run IsPage IsFile want json
