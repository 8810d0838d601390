-- What inner functions promise one another, beside `specs/Phasing.antt`.
use Rattle.std.specs.Prelude.{◌≡◌, ◌≢◌, ◌⊎◌, ℕ, ◌+◌, ◌<◌, Bool, List, ◌++◌, length, map, codes, Option, Some, slice_get, string_bytes}
use Rattle.std.specs.List.{AllByRecursion}
use Rattle.calltext.specs.Grammar.{long}
use Rattle.semantics.specs.Headline.{IsNeverStuckWithin, IsStuckRunWithin}
use Rattle.semantics.specs.declared.state.Step.{Step}
use Rattle.cutting.specs.declared.whole.Phases.{Phases}
use Rattle.session.specs.Pages.{IsUnreadFile}
use Rattle.session.specs.declared.by_phases.Shown.{Shown}
use Rattle.session.specs.declared.by_phases.Shown.TheVariants as shows
use Rattle.session.specs.declared.cut_files.Output.{Output}
use Rattle.session.specs.declared.cut_files.Outputs.{Outputs}
use Rattle.session.specs.declared.cut_files.Texts.{Texts}
use Rattle.session.specs.declared.told.Outcome.TheVariants as told
use Rattle.session.specs.Phasing.{PhaseCut, FileText, IsPhaseCut, IsCutOf, IsPartOfCut, Part, count_jobs, cut_files, cut_line, job_lines, path_in, text_files}

-- what phases show of the program that bytes are the text of
abbrev pub IsShown : List ℕ → Shown → Type 0
IsShown program shows.Never = IsNeverStuckWithin long program
IsShown program (shows.Stuck steps) = IsStuckRunWithin long program steps.items

-- the file at this path is the one that is named for a schedule, and some run of the program of
-- this text gets stuck
abbrev pub IsShownFile : Option (List ℕ) → List ℕ → List ℕ → Type 0
IsShownFile out program path = (out ≡ Some path) × (steps : List Step) × IsStuckRunWithin long program steps

-- the file that failed is told as its folder: it has the order of the phases, and no file has
-- changed; or it is the one that is named for a schedule, and there is one
abbrev pub IsFolderFile : (List ℕ → Bool) → List ℕ → Option (List ℕ) → List ℕ → (List ℕ → Option (List ℕ)) → (List ℕ → Option (List ℕ)) → List ℕ → Type 0
IsFolderFile reads folder out program old new path =
    ((path ≡ folder) × IsUnreadFile reads (path_in folder (codes "phases")) × (new ≡ old)) ⊎ IsShownFile out program path

-- no two files have one path
abbrev pub ArePathsApart : List FileText → Type 0
ArePathsApart files =
    (i j : ℕ) (a b : FileText) → i < j → slice_get files i ≡ Some a → slice_get files j ≡ Some b → a.path ≢ b.path

-- the files that are to be written
abbrev pub files_of : List Output → List FileText
files_of outputs = map (λ output. record { path = string_bytes output.path; text = output.text }) outputs

-- what is to be written of phases so far, each with its text
pub record AreTexts (folder : List ℕ) (parts : List Part) (texts : Texts) : Type 0 where
  pub all : AllByRecursion IsPartOfCut parts
  pub files : files_of texts.files.items ≡ text_files folder 1 parts
  pub list : string_bytes texts.list ≡ job_lines folder 1 parts
  pub jobs : texts.jobs ≡ count_jobs parts

-- what is to be written and told is that of a cut
pub record AreOutputs (folder : List ℕ) (given : Phases) (outputs : Outputs) : Type 0 where
  pub cut : PhaseCut
  pub is : IsPhaseCut cut
  pub of : IsCutOf given cut
  pub files : files_of outputs.files.items ≡ cut_files folder cut
  pub phases : outputs.phases ≡ length cut.order
  pub different : outputs.different ≡ length cut.parts
  pub jobs : outputs.jobs ≡ count_jobs cut.parts

-- the page tells these numbers, and this below
abbrev pub IsPageOf : Outputs → List ℕ → List ℕ → ℕ → Type 0
IsPageOf outputs told text status = (text ≡ cut_line outputs.phases outputs.different outputs.jobs ++ told) × (status ≡ 0)
