-- The page of `unroll`.
use Rattle.std.specs.Prelude.{◌≡◌, ◌⊎◌, ℕ, Bool, true, false, List, ◌++◌, codes, is_some, if◌then◌else◌, Option, Some, None}
use Rattle.std.specs.Str.{bytes_eq}
use Rattle.files.specs.Contents.{AreAll}
use Rattle.spmd_program.specs.Unrolling.{IsMapWanted, IsRefusal, IsUnrolling}
use Rattle.session.specs.Pages.{ChangesAtMost, IsProgramFile, IsWritten}
use Rattle.session.specs.declared.commands.Stop.{Stop}
use Rattle.session.specs.declared.commands.Stop.TheVariants as stop

-- whether collective calls wait for all, as barriers do, by the text behind `--collectives`:
-- `least` is usual, and no other word but `most` is one
abbrev pub barriers_in : Option (List ℕ) → Option Bool
barriers_in None = Some false
barriers_in (Some way) = if bytes_eq way (codes "most") then Some true else (if bytes_eq way (codes "least") then Some false else None)

abbrev pub no_way : List ℕ
no_way = codes "error: --collectives takes least or most\n"

-- the path is one of the two that are named
abbrev pub IsNamedPath : Option (List ℕ) → Option (List ℕ) → List ℕ → Type 0
IsNamedPath out map path = (out ≡ Some path) ⊎ (map ≡ Some path)

-- no file has changed but those at these paths, where they are named
abbrev pub ChangesAtMostTwo : Option (List ℕ) → Option (List ℕ) → (List ℕ → Option (List ℕ)) → (List ℕ → Option (List ℕ)) → Type 0
ChangesAtMostTwo out map old new = (path : List ℕ) → (IsNamedPath out map path → ⊥) → new path ≡ old path

-- the file that failed is the one at this path
abbrev pub IsFileOf : Option (List ℕ) → Stop → Type 0
IsFileOf file stop.Memory = ⊥
IsFileOf file (stop.File path) = file ≡ Some path.now

-- the program is written to the file that is named for it, and then its map, where it was made, to
-- the file that is named for that, which alone changes then
abbrev pub AreWritten : Bool → (List ℕ → Option (List ℕ)) → (List ℕ → Option (List ℕ)) → Option (List ℕ) → Option (List ℕ) → List ℕ → Option (List ℕ) → Type 0
AreWritten tells old new out map program made =
    (between : List ℕ → Option (List ℕ)) × IsWritten tells old between out program × ChangesAtMost map between new
    × ((places : List ℕ) → IsMapWanted (is_some map) places made → IsWritten tells between new map places)

-- the text of the program is the page; or it is written to the file that is named for it, and the
-- page is a line that tells this
abbrev pub IsProgramPage : Option (List ℕ) → List ℕ → List ℕ → Type 0
IsProgramPage None program text = text ≡ program
IsProgramPage (Some file) program text = text ≡ codes "unrolled\n"

-- the line that tells what is wrong with a text
abbrev pub refused_text : List ℕ → List ℕ
refused_text told = codes "refused " ++ (told ++ codes "\n")

-- the SPMD text is unrolled, and what it is unrolled to is handed over
pub record IsHandedOver (tells : Bool) (old new : List ℕ → Option (List ℕ)) (path : List ℕ) (ranks : ℕ) (settings : List (List ℕ)) (barriers : Bool) (out map : Option (List ℕ)) (source text : List ℕ) : Type 0 where
  pub program : List ℕ
  pub made : Option (List ℕ)
  pub unrolled : IsUnrolling path source ranks settings barriers (is_some map) program made
  pub written : AreWritten tells old new out map program made
  pub page : IsProgramPage out program text

-- the page of `unroll`: so the SPMD text of the file is unrolled; or what is wrong with it is told,
-- and all files are as before
abbrev pub IsUnrolledPage : Bool → (List ℕ → Option (List ℕ)) → (List ℕ → Option (List ℕ)) → List ℕ → ℕ → List (List ℕ) → Bool → Option (List ℕ) → Option (List ℕ) → List ℕ → ℕ → Type 0
IsUnrolledPage tells old new path ranks settings barriers out map text status =
    (source : List ℕ) × AreAll (old path) source
    × ((IsHandedOver tells old new path ranks settings barriers out map source text × (status ≡ 0))
    ⊎ ((told : List ℕ) × IsRefusal path source ranks settings barriers told × (new ≡ old) × (text ≡ refused_text told) × (status ≡ 3)))

-- the SPMD text of the file can be unrolled
abbrev pub CanUnroll : Option (List ℕ) → List ℕ → ℕ → List (List ℕ) → Bool → Bool → Type 0
CanUnroll file path ranks settings barriers mapped =
    (source : List ℕ) × (program : List ℕ) × (made : Option (List ℕ)) × AreAll file source × IsUnrolling path source ranks settings barriers mapped program made

-- the file that failed is the SPMD text's, and no file has changed; or it is one of those that are
-- named, and the text can be unrolled
abbrev pub IsUnrollFile : (List ℕ → Bool) → List ℕ → ℕ → List (List ℕ) → Bool → Option (List ℕ) → Option (List ℕ) → (List ℕ → Option (List ℕ)) → (List ℕ → Option (List ℕ)) → List ℕ → Type 0
IsUnrollFile reads path ranks settings barriers out map old new file =
    (IsProgramFile reads path file × (new ≡ old)) ⊎ (IsNamedPath out map file × CanUnroll (old path) path ranks settings barriers (is_some map))
