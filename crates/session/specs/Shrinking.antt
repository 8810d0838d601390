-- The page of `shrink`.
use Rattle.std.specs.Prelude.{◌≡◌, ◌≢◌, ◌⊎◌, ℕ, Bool, false, List, ◌++◌, codes, Option, Some, None}
use Rattle.files.specs.Contents.{AreAll}
use Rattle.checker.specs.Verdicts.{IsProgramReason}
use Rattle.checker.specs.declared.reason.Reason.{Reason}
use Rattle.checker.specs.declared.reason.Reason.TheVariants as reasons
use Rattle.deciding.specs.Decisions.{IsUndecided}
use Rattle.deciding.specs.declared.texts.Undecided.{Undecided}
use Rattle.prover.specs.Answers.{CanFinish, CanHang}
use Rattle.shrinking.specs.Left.{AreLeft}
use Rattle.shrinking.specs.Mapping.{map_text}
use Rattle.shrinking.specs.Told.{left_text}
use Rattle.shrinking.specs.Shrinking.{CanHangLong, IsNotStuckLong, IsShrunk, IsShrunkLong}
use Rattle.session.specs.Explaining.{IsUndecidedPage}
use Rattle.session.specs.Pages.{ChangesAtMost, IsProgramFile, IsWritten}
use Rattle.session.specs.Unrolling.{IsNamedPath}

-- the program is refused by `prove`, as one that is beyond its limits
abbrev pub IsBeyond : List ℕ → Type 0
IsBeyond program = (reason : Reason) × IsProgramReason program reason × (reason ≢ reasons.Memory)

-- some run of the program ends stuck, within the limits of `prove`, or beyond them
abbrev pub Hangs : List ℕ → Type 0
Hangs program = CanHang program ⊎ (IsBeyond program × CanHangLong program)

-- the program hangs, and the smaller one does: each within the limits of `prove`, where the program
-- is within them
abbrev pub IsSmaller : List ℕ → List ℕ → Type 0
IsSmaller program smaller = (CanHang program × IsShrunk program smaller) ⊎ (IsBeyond program × CanHangLong program × IsShrunkLong program smaller)

-- some run of the program finishes; or it is beyond the limits of `prove`, and its run that buffers
-- least isn't stuck
abbrev pub IsUnhung : List ℕ → Type 0
IsUnhung program = CanFinish program ⊎ (IsBeyond program × IsNotStuckLong program)

-- the text of the smaller program is the page; or it is written to the file that is named for it,
-- and the page is the line that tells a deadlock, and the one that tells which lines of the given
-- program are left
abbrev pub IsSmallerPage : Option (List ℕ) → List ℕ → List ℕ → List ℕ → Type 0
IsSmallerPage None smaller lines text = text ≡ smaller
IsSmallerPage (Some file) smaller lines text = text ≡ codes "deadlock\n" ++ left_text lines

-- the smaller program is written to the file that is named for it, and then its map to the one that
-- is named for that
pub record AreWritten (tells : Bool) (old new : List ℕ → Option (List ℕ)) (out map : Option (List ℕ)) (smaller places : List ℕ) : Type 0 where
  pub between : List ℕ → Option (List ℕ)
  pub program : IsWritten tells old between out smaller
  pub mapped : IsWritten tells between new map places
  pub kept : ChangesAtMost map between new

-- a smaller program is handed over, with the lines of the given one, at this path, that are left
pub record IsHandedSmaller (tells : Bool) (old new : List ℕ → Option (List ℕ)) (path : List ℕ) (out map : Option (List ℕ)) (program text : List ℕ) (status : ℕ) : Type 0 where
  pub smaller : List ℕ
  pub lines : List ℕ
  pub is : IsSmaller program smaller
  pub left : AreLeft program smaller lines
  pub written : AreWritten tells old new out map smaller (map_text path smaller lines)
  pub page : IsSmallerPage out smaller lines text
  pub one : status ≡ 1

-- the line that tells that no run of a program that was tried ended stuck
abbrev pub unshrunk_line : List ℕ
unshrunk_line = codes "unknown walks\n"

-- a smaller program is told, or written to the file that is named for it; or no run that was tried
-- ended stuck, or the program is refused, and all files are as before
abbrev pub IsShrunkTo : Bool → (List ℕ → Option (List ℕ)) → (List ℕ → Option (List ℕ)) → List ℕ → Option (List ℕ) → Option (List ℕ) → List ℕ → List ℕ → ℕ → Type 0
IsShrunkTo tells old new path out map program text status =
    IsHandedSmaller tells old new path out map program text status
    ⊎ ((IsUnhung program × (new ≡ old) × (text ≡ unshrunk_line) × (status ≡ 2))
    ⊎ ((why : Undecided) × IsUndecided program why × (new ≡ old) × IsUndecidedPage false why text status))

-- the page of `shrink`: so the program of the file is made smaller
abbrev pub IsMadeSmaller : Bool → (List ℕ → Option (List ℕ)) → (List ℕ → Option (List ℕ)) → List ℕ → Option (List ℕ) → Option (List ℕ) → List ℕ → ℕ → Type 0
IsMadeSmaller tells old new path out map text status =
    (program : List ℕ) × AreAll (old path) program × IsShrunkTo tells old new path out map program text status

-- some run of the program of the file ends stuck
abbrev pub HasSmaller : Option (List ℕ) → Type 0
HasSmaller file = (program : List ℕ) × AreAll file program × Hangs program

-- the file that failed is the program's, and no file has changed; or it is one of those that are
-- named for the smaller program and its map, and there is a smaller program
abbrev pub IsShrinkFile : (List ℕ → Bool) → List ℕ → Option (List ℕ) → Option (List ℕ) → (List ℕ → Option (List ℕ)) → (List ℕ → Option (List ℕ)) → List ℕ → Type 0
IsShrinkFile reads program out map old new path = (IsProgramFile reads program path × (new ≡ old)) ⊎ (IsNamedPath out map path × HasSmaller (old program))
