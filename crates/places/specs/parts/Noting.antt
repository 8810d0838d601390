-- An entry is noted in the list of entries.
use Rattle.std.specs.Prelude.{◌≡◌, ◌⊎◌, ◌<◌, ℕ, Bool, true, false, List, length, Option, Some, None, slice_get}
use Rattle.plaintext.specs.Plain.{numeral}
use Rattle.places.specs.Maps.{IsLineOf, IsRemark}
use Rattle.places.specs.declared.entries.MapEntry.{MapEntry}

-- the entry comes to a place that was free
pub record Notes (old new : List (Option MapEntry)) (entry : MapEntry) : Type 0 where
  pub n : ℕ
  pub number_is : numeral n ≡ entry.number.now
  pub some : 0 < n
  pub small : n < 2147483648
  pub free : slice_get old n ≡ Some None
  pub noted : slice_get new n ≡ Some (Some entry)
  pub others : (m : ℕ) → (m ≡ n → ⊥) → slice_get new m ≡ slice_get old m
  pub as_long : length new ≡ length old

-- no free place has the number of these digits
abbrev pub HasNoPlace : List (Option MapEntry) → List ℕ → Type 0
HasNoPlace entries digits = (n : ℕ) → numeral n ≡ digits → 0 < n → n < 2147483648 → n < length entries → (found : MapEntry) × (slice_get entries n ≡ Some (Some found))

-- the line, without its LF, is an entry that is noted, or a remark
abbrev pub IsTakenLine : List (Option MapEntry) → List (Option MapEntry) → List ℕ → Type 0
IsTakenLine old new line =
    ((entry : MapEntry) × IsLineOf line entry.number.now entry.words.now × Notes old new entry)
    ⊎ (IsRemark line × ((digits words : List ℕ) → IsLineOf line digits words → ⊥) × (new ≡ old))

abbrev pub IsLeft : List (Option MapEntry) → List ℕ → Type 0
IsLeft old line = (IsRemark line → ⊥) × ((digits words : List ℕ) → IsLineOf line digits words → HasNoPlace old digits)

abbrev pub IsTakenIf : Bool → List (Option MapEntry) → List (Option MapEntry) → List ℕ → Type 0
IsTakenIf true old new line = IsTakenLine old new line
IsTakenIf false old new line = IsLeft old line
