-- What inner functions promise one another, beside `specs/Shrinking.antt`.
use Rattle.std.specs.Prelude.{◌≡◌, ℕ, false, List}
use Rattle.deciding.specs.Decisions.{IsUndecided}
use Rattle.shrinking.specs.declared.halving.NotShrunkLong.{NotShrunkLong}
use Rattle.shrinking.specs.declared.halving.NotShrunkLong.TheVariants as unshrunk
use Rattle.session.specs.Explaining.{IsUndecidedPage}
use Rattle.session.specs.Shrinking.{IsUnhung, unshrunk_line}

-- why there is no smaller program
abbrev pub IsNotSmaller : List ℕ → NotShrunkLong → Type 0
IsNotSmaller program unshrunk.NothingHangs = IsUnhung program
IsNotSmaller program (unshrunk.Undecided why) = IsUndecided program why

-- why there is no smaller program is told: no run that was tried ended stuck, or the program is
-- refused
abbrev pub IsUnshrunkPage : NotShrunkLong → List ℕ → ℕ → Type 0
IsUnshrunkPage unshrunk.NothingHangs text status = (text ≡ unshrunk_line) × (status ≡ 2)
IsUnshrunkPage (unshrunk.Undecided why) text status = IsUndecidedPage false why text status
