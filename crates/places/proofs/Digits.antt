-- Where digits end is one place.
use Rattle.std.proofs.Common.{◌≡◌, ◌∙◌, ℕ, List, [], ◌∷◌, ◌++◌, Option, Some, None, ap, refl, subst, sym, drop, get_or}
use Rattle.std.specs.Prelude.{IfNone}
use Rattle.places.specs.Maps.{AreDigits, IsDigit}
use Rattle.places.specs.Marks.{BeginsWithNoDigit}

pub if_none : {X : Type 0} (r : Option X) (P : Type 0) → P → IfNone r P
if_none None P p = p
if_none (Some x) P p = tt

pub no_digit : (b : ℕ) (more : List ℕ) → (IsDigit b → ⊥) → BeginsWithNoDigit (b ∷ more)
no_digit b more none byte rest is digit = none (subst (λ (n : ℕ). IsDigit n) (sym (ap (λ (l : List ℕ). get_or l 0 0) is)) digit)

pub same_digits : (ds es xs ys : List ℕ) → AreDigits ds → AreDigits es → BeginsWithNoDigit xs → BeginsWithNoDigit ys → ds ++ xs ≡ es ++ ys
    → (ds ≡ es) × (xs ≡ ys)
same_digits [] [] xs ys are others free clear is = (refl, is)
same_digits [] (e ∷ es) xs ys are others free clear is = absurd (free e (es ++ ys) is others.0)
same_digits (d ∷ ds) [] xs ys are others free clear is = absurd (clear d (ds ++ xs) (sym is) are.0)
same_digits (d ∷ ds) (e ∷ es) xs ys are others free clear is =
    let first : d ≡ e = ap (λ (l : List ℕ). get_or l 0 0) is in
    let more = same_digits ds es xs ys are.1 others.1 free clear (ap (λ (l : List ℕ). drop 1 l) is) in
    (ap (λ (b : ℕ). b ∷ ds) first ∙ ap (λ (l : List ℕ). e ∷ l) more.0, more.1)

pub one_cut : (text ds es xs ys : List ℕ) → AreDigits ds → AreDigits es → BeginsWithNoDigit xs → BeginsWithNoDigit ys → text ≡ ds ++ xs → text ≡ es ++ ys
    → (ds ≡ es) × (xs ≡ ys)
one_cut text ds es xs ys are others free clear one other = same_digits ds es xs ys are others free clear (sym one ∙ other)
