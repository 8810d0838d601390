-- Files that are written one after another.
use Rattle.std.proofs.Common.{◌≡◌, ◌∙◌, ℕ, ◌+◌, ◌<◌, ◌≤◌, List, Some, length, get_or, slice_get, arith, inl, inr, refl, sym, subst, ap}
use Rattle.std.specs.Prelude.{Option, option_map, string_bytes}
use Rattle.std.proofs.lemmas.Bool.{cases_lt}
use Rattle.std.proofs.lemmas.Option.{same_Some, slice_get-map, slice_get_read, slice_get_within}
use Rattle.std.proofs.lemmas.List.{length-map}
use Rattle.files.specs.Contents.{KeepsOthers}
use Rattle.session.specs.parts.Phasing.{ArePathsApart, files_of}
use Rattle.session.specs.Phasing.{ChangesThese, FileText, Hold}
use Rattle.session.specs.declared.cut_files.Output.{Output}

-- each of the first files has its text
abbrev pub HoldBelow : ℕ → List FileText → (List ℕ → Option (List ℕ)) → Type 0
HoldBelow count files new = (place : ℕ) (file : FileText) → place < count → slice_get files place ≡ Some file → new file.path ≡ Some file.text

module _ (files : List FileText) (old new : List ℕ → Option (List ℕ)) (place : ℕ) (file : FileText) (there : slice_get files place ≡ Some file) (keeps : KeepsOthers file.path old new) where
  -- one file more has its text
  pub one_more_held : ArePathsApart files → new file.path ≡ Some file.text → HoldBelow place files old → HoldBelow (place + 1) files new
  one_more_held apart taken held k other below at = elim (cases_lt k place) [
    | inl before ↦ keeps other.path (apart k place other file before at there) ∙ held k other before at
    | inr late ↦
        let here : k ≡ place = omega (arith, late, below) in
        let same : file ≡ other = same_Some file other (sym there ∙ sym (ap (slice_get files) here) ∙ at) in
        subst (λ (f : FileText). new f.path ≡ Some f.text) same taken
  ]

  -- and no file that isn't among these has changed
  pub one_more_changed : (first : List ℕ → Option (List ℕ)) → ChangesThese files first old → ChangesThese files first new
  one_more_changed first others path outside = keeps path (outside place file there) ∙ others path outside

-- what is written at a place
pub file_there : (outputs : List Output) (place : ℕ) (output : Output) → place < length outputs → output ≡ get_or outputs place output
    → slice_get (files_of outputs) place ≡ Some (record { path = string_bytes output.path; text = output.text })
file_there outputs place output inside is =
    slice_get-map _ outputs place ∙ ap (option_map _) (slice_get_read outputs (length outputs) place output refl inside is)

pub all_held : (outputs : List Output) (new : List ℕ → Option (List ℕ)) (count : ℕ) → length outputs ≤ count → HoldBelow count (files_of outputs) new
    → Hold (files_of outputs) new
all_held outputs new count all held place file there =
    let size : length (files_of outputs) ≡ length outputs = length-map outputs _ in
    held place file (omega (arith, all, size, slice_get_within (files_of outputs) place file there)) there
