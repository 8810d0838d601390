-- Entries of rows.
use Rattle.std.proofs.Common.{◌≡◌, ℕ, zero, suc, ◌+◌, ◌<◌, ◌≤◌, inl, inr, Bool, false, List, [], ◌∷◌, ◌++◌, length, get_or, slice_get, Option, Some, None, refl, sym, ◌∙◌, ap, subst, arith}
use Rattle.std.specs.Prelude.{IfSome, IfNone, OnOk, Result, Ok, Err}
use Rattle.std.proofs.lemmas.Bool.{cases_eq, cases_lt}
use Rattle.std.proofs.lemmas.Option.{slice_get_within, slice_get-get_or, get_or_from_slice_get}

pub one_more : (f : ℕ → Bool) (entries : List ℕ) (place d : ℕ) → ((i e : ℕ) → i < place → slice_get entries i ≡ Some e → f e ≡ false) → f (get_or entries place d) ≡ false
    → (i e : ℕ) → i < place + 1 → slice_get entries i ≡ Some e → f e ≡ false
one_more f entries place d before here i e high there =
    elim (cases_eq i place) [
      | inl same ↦
          let is : get_or entries place d ≡ e = get_or_from_slice_get entries place e d (ap (slice_get entries) (sym same) ∙ there) in
          subst (λ (z : ℕ). f z ≡ false) is here
      | inr differ ↦ before i e (omega (arith, high, differ)) there
    ]

pub at_end : (f : ℕ → Bool) (entries : List ℕ) (place : ℕ) → length entries ≤ place → ((i e : ℕ) → i < place → slice_get entries i ≡ Some e → f e ≡ false)
    → (i e : ℕ) → slice_get entries i ≡ Some e → f e ≡ false
at_end f entries place past before i e there =
    let within : i < length entries = slice_get_within entries i e there in
    before i e (omega (arith, within, past)) there

pub on_some : {A : Type 0} (o : Option A) (P Q : A → Type 0) → ((x : A) → P x → Q x) → IfSome o P → IfSome o Q
on_some None P Q follows h = tt
on_some (Some x) P Q follows h = follows x h

pub on_none : {A : Type 0} (o : Option A) (P Q : Type 0) → (P → Q) → IfNone o P → IfNone o Q
on_none None P Q follows h = follows h
on_none (Some x) P Q follows h = tt

pub get_front : {A : Type 0} (xs ys : List A) (i : ℕ) (x : A) → slice_get xs i ≡ Some x → slice_get (xs ++ ys) i ≡ Some x
get_front [] ys i x there = absurd (cc)
get_front (y ∷ xs) ys zero x there = there
get_front (y ∷ xs) ys (suc i) x there = get_front xs ys i x there

pub get_behind : {A : Type 0} (xs ys : List A) (i : ℕ) (x : A) → slice_get ys i ≡ Some x → slice_get (xs ++ ys) (length xs + i) ≡ Some x
get_behind [] ys i x there = let same : 0 + i ≡ i = omega arith in subst (λ (z : ℕ). slice_get ys z ≡ Some x) (sym same) there
get_behind (y ∷ xs) ys i x there =
    let same : suc (length xs) + i ≡ suc (length xs + i) = omega arith in
    subst (λ (z : ℕ). slice_get (y ∷ xs ++ ys) z ≡ Some x) (sym same) (get_behind xs ys i x there)

pub get_end : {A : Type 0} (xs : List A) (x : A) → slice_get (xs ++ x ∷ []) (length xs) ≡ Some x
get_end [] x = refl
get_end (y ∷ xs) x = get_end xs x

pub only_one : (c e i : ℕ) → slice_get (c ∷ []) i ≡ Some e → (i ≡ 0) × (e ≡ c)
only_one c e zero there = (refl, cc)
only_one c e (suc i) there = absurd (cc)

-- a list that has each entry of another one is no shorter
pub no_shorter : (xs ys : List ℕ) → ((i e : ℕ) → slice_get xs i ≡ Some e → slice_get ys i ≡ Some e) → length xs ≤ length ys
no_shorter xs ys stays =
    elim (cases_lt (length ys) (length xs)) [
      | inl longer ↦
          let low : length ys < length ys = slice_get_within ys (length ys) (get_or xs (length ys) 0) (stays (length ys) (get_or xs (length ys) 0) (slice_get-get_or xs (length ys) 0 longer)) in
          absurd (let never : ⊥ = omega (arith, low) in never)
      | inr fine ↦ fine
    ]

-- what follows from two facts where there is no error
pub on_both : {A E : Type 0} (r : Result A E) (P Q R : Type 0) → (P → Q → R) → OnOk r P → OnOk r Q → OnOk r R
on_both (Ok x) P Q R follows one other = follows one other
on_both (Err e) P Q R follows one other = tt

-- what is known of what there is
pub at_some : {A : Type 0} (o : Option A) (x : A) (P : A → Type 0) → o ≡ Some x → IfSome o P → P x
at_some None x P is h = absurd (cc)
at_some (Some y) x P is h = let same : y ≡ x = cc in subst P same h

pub at_none : {A : Type 0} (o : Option A) (P : Type 0) → o ≡ None → IfNone o P → P
at_none None P is h = h
at_none (Some x) P is h = absurd (cc)

pub nothing : (xs : List ℕ) → length xs ≡ 0 → xs ≡ []
nothing [] size = refl
nothing (x ∷ xs) size = absurd (let never : ⊥ = omega (arith, size) in never)
