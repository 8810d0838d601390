-- Entries come to places that are free.
use Rattle.std.proofs.Common.{◌≡◌, ◌≢◌, ◌∙◌, ◌<◌, ℕ, zero, suc, true, false, List, [], ◌∷◌, Option, Some, None, ap, refl, sym, arith, get_or, length, replicate, set}
use Rattle.std.specs.Prelude.{slice_get}
use Rattle.std.specs.Option.{is_some}
use Rattle.std.proofs.lemmas.List.{get_or-set_same, length-set}
use Rattle.std.proofs.lemmas.Option.{slice_get-get_or, slice_get_within}
use Rattle.plaintext.specs.Plain.{numeral}
use Rattle.places.specs.parts.Noting.{Notes}
use Rattle.places.specs.declared.entries.MapEntry.{MapEntry}

abbrev nones : ℕ → List (Option MapEntry)
nones count = replicate count None

pub none_there : (count n : ℕ) (entry : MapEntry) → slice_get (nones count) n ≡ Some (Some entry) → ⊥
none_there zero n entry there = cc
none_there (suc count) zero entry there = cc
none_there (suc count) (suc n) entry there = none_there count n entry there

held : (entries : List (Option MapEntry)) (n : ℕ) (slot : Option MapEntry) → slice_get entries n ≡ Some slot → is_some slot ≡ true
    → (found : MapEntry) × (slice_get entries n ≡ Some (Some found))
held entries n (Some found) is some = (found, is)
held entries n None is some = cc

pub there : (entries : List (Option MapEntry)) (at : ℕ) (slot : Option MapEntry) → at < length entries → slot ≡ get_or entries at slot → slice_get entries at ≡ Some slot
there entries at slot within is = slice_get-get_or entries at slot within ∙ ap (λ (x : Option MapEntry). Some x) (sym is)

pub occupied : (entries : List (Option MapEntry)) (n at : ℕ) (slot : Option MapEntry) → n ≡ at → slice_get entries at ≡ Some slot → is_some slot ≡ true
    → (found : MapEntry) × (slice_get entries n ≡ Some (Some found))
occupied entries n at slot same is some = held entries n slot (ap (λ (k : ℕ). slice_get entries k) same ∙ is) some

is_free : (entries : List (Option MapEntry)) (n : ℕ) (slot : Option MapEntry) → slice_get entries n ≡ Some slot → is_some slot ≡ false → slice_get entries n ≡ Some None
is_free entries n (Some found) is some = cc
is_free entries n None is some = is

set_there : (entries : List (Option MapEntry)) (n : ℕ) (x : Option MapEntry) → n < length entries → slice_get (set entries n x) n ≡ Some x
set_there entries n x within =
    slice_get-get_or (set entries n x) n None (grind (arith, length-set, within)) ∙ ap (λ (y : Option MapEntry). Some y) (get_or-set_same entries n x None within)

set_elsewhere : (entries : List (Option MapEntry)) (n m : ℕ) (x : Option MapEntry) → m ≢ n → slice_get (set entries n x) m ≡ slice_get entries m
set_elsewhere [] n m x other = refl
set_elsewhere (e ∷ es) zero zero x other = absurd (other refl)
set_elsewhere (e ∷ es) zero (suc m) x other = refl
set_elsewhere (e ∷ es) (suc n) zero x other = refl
set_elsewhere (e ∷ es) (suc n) (suc m) x other = set_elsewhere es n m x (λ same. other (ap (λ (k : ℕ). suc k) same))

pub notes : (entries : List (Option MapEntry)) (entry : MapEntry) (n at : ℕ) (slot : Option MapEntry) → n ≡ at → numeral n ≡ entry.number.now → 0 < at → at < 2147483648
    → slice_get entries at ≡ Some slot → is_some slot ≡ false → Notes entries (set entries at (Some entry)) entry
notes entries entry n at slot same is some small there none = record {
  n = at;
  number_is = ap numeral (sym same) ∙ is;
  some = some;
  small = small;
  free = is_free entries at slot there none;
  noted = set_there entries at (Some entry) (slice_get_within entries at slot there);
  others = λ m other. set_elsewhere entries at m (Some entry) other;
  as_long = grind (arith, length-set);
}
