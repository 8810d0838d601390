-- What stands at a place of a list that grows at its end, or of a list with one item changed.
use Rattle.std.proofs.Common.{◌≡◌, ◌≢◌, ℕ, zero, suc, ◌<◌, ◌⊎◌, inl, inr, Bool, true, false, List, [], ◌∷◌, ◌++◌, Some, length, slice_get, slice_set, if◌then◌else◌, refl, sym, ap, ◌∙◌, arith, length-set, get_or-set_same, get_or-set_other}
use Rattle.std.specs.List.{filter}
use Rattle.std.proofs.lemmas.Option.{slice_get_within, slice_get-get_or, get_or_from_slice_get}

pub item_there : {X : Type 0} (xs : List X) (i : ℕ) → i < length xs → (x : X) × (slice_get xs i ≡ Some x)
item_there [] i below = absurd (omega (arith, below))
item_there (x ∷ xs) zero below = (x, refl)
item_there (x ∷ xs) (suc i) below = item_there xs i (omega (arith, below))

pub in_front : {X : Type 0} (xs ys : List X) (i : ℕ) (x : X) → slice_get xs i ≡ Some x → slice_get (xs ++ ys) i ≡ Some x
in_front [] ys i x h = absurd (cc)
in_front (y ∷ xs) ys zero x h = h
in_front (y ∷ xs) ys (suc i) x h = in_front xs ys i x h

pub at_end : {X : Type 0} (xs : List X) (x : X) → slice_get (xs ++ x ∷ []) (length xs) ≡ Some x
at_end [] x = refl
at_end (y ∷ xs) x = at_end xs x

pub front_or_end : {X : Type 0} (xs : List X) (x y : X) (i : ℕ) → slice_get (xs ++ x ∷ []) i ≡ Some y → (slice_get xs i ≡ Some y) ⊎ ((i ≡ length xs) × (x ≡ y))
front_or_end [] x y zero h = inr (refl, let e : x ≡ y = cc in e)
front_or_end [] x y (suc i) h = absurd (cc)
front_or_end (z ∷ xs) x y zero h = inl h
front_or_end (z ∷ xs) x y (suc i) h =
    elim (front_or_end xs x y i h) [
      | inl front ↦ inl front
      | inr last ↦ inr (ap suc last.0, last.1)
    ]

pub set_here : {X : Type 0} (xs : List X) (i : ℕ) (x : X) → i < length xs → slice_get (slice_set xs i x) i ≡ Some x
set_here xs i x below =
    slice_get-get_or (slice_set xs i x) i x (let size : length (slice_set xs i x) ≡ length xs = length-set xs i x in omega (arith, size, below)) ∙
    ap Some (get_or-set_same xs i x x below)

pub set_elsewhere : {X : Type 0} (xs : List X) (i k : ℕ) (x y : X) → k ≢ i → slice_get (slice_set xs i x) k ≡ Some y → slice_get xs k ≡ Some y
set_elsewhere xs i k x y differ h =
    let size : length (slice_set xs i x) ≡ length xs = length-set xs i x in
    let inside = slice_get_within (slice_set xs i x) k y h in
    slice_get-get_or xs k y (omega (arith, size, inside)) ∙
    ap Some (sym (get_or-set_other xs i k x y differ) ∙ get_or_from_slice_get (slice_set xs i x) k y y h)

-- ---- filters

filter_step : {X : Type 0} (test : X → Bool) (y : X) (xs rest : List X) (x : X) (b : Bool) → test y ≡ b → ((i : ℕ) → slice_get rest i ≡ Some x → (k : ℕ) × (slice_get xs k ≡ Some x) × (test x ≡ true)) → (i : ℕ) → slice_get (if b then y ∷ rest else rest) i ≡ Some x → (k : ℕ) × (slice_get (y ∷ xs) k ≡ Some x) × (test x ≡ true)
filter_step test y xs rest x true on later zero h = let e : y ≡ x = cc in (zero, h, ap test (sym e) ∙ on)
filter_step test y xs rest x true on later (suc i) h = let w = later i h in (suc w.0, w.1, w.2)
filter_step test y xs rest x false off later i h = let w = later i h in (suc w.0, w.1, w.2)

pub filter_passes : {X : Type 0} (test : X → Bool) (xs : List X) (i : ℕ) (x : X) → slice_get (filter test xs) i ≡ Some x → (k : ℕ) × (slice_get xs k ≡ Some x) × (test x ≡ true)
filter_passes test [] i x h = absurd (cc)
filter_passes test (y ∷ xs) i x h = filter_step test y xs (filter test xs) x (test y) refl (λ k there. filter_passes test xs k x there) i h

pub record Found {X : Type 0} (test : X → Bool) (xs : List X) (x y : X) : Type 0 where
  pub at : ℕ
  pub later : ℕ
  pub before : at < later
  pub first : slice_get xs at ≡ Some x
  pub second : slice_get xs later ≡ Some y
  pub passes : test x ≡ true
  pub passes_later : test y ≡ true

found_later : {X : Type 0} (test : X → Bool) (z : X) (xs : List X) (x y : X) → Found test xs x y → Found test (z ∷ xs) x y
found_later test z xs x y w =
    record { at = suc w.at; later = suc w.later; before = omega (arith, w.before); first = w.first; second = w.second; passes = w.passes; passes_later = w.passes_later }

pair_step : {X : Type 0} (test : X → Bool) (z : X) (xs : List X) (x y : X) (b : Bool) → test z ≡ b → ((i j : ℕ) → i < j → slice_get (filter test xs) i ≡ Some x → slice_get (filter test xs) j ≡ Some y → Found test xs x y) → (i j : ℕ) → i < j → slice_get (if b then z ∷ filter test xs else filter test xs) i ≡ Some x → slice_get (if b then z ∷ filter test xs else filter test xs) j ≡ Some y → Found test (z ∷ xs) x y
pair_step test z xs x y false off rest i j before at later = found_later test z xs x y (rest i j before at later)
pair_step test z xs x y true on rest i zero before at later = absurd (omega (arith, before))
pair_step test z xs x y true on rest zero (suc j) before at later =
    let w = filter_passes test xs j y later in
    let e : z ≡ x = cc in
    record { at = 0; later = suc w.0; before = omega arith; first = at; second = w.1; passes = ap test (sym e) ∙ on; passes_later = w.2 }
pair_step test z xs x y true on rest (suc i) (suc j) before at later = found_later test z xs x y (rest i j (omega (arith, before)) at later)

-- what stands in this order in what passes stands so in the list
pub filter_pair : {X : Type 0} (test : X → Bool) (xs : List X) (x y : X) (i j : ℕ) → i < j → slice_get (filter test xs) i ≡ Some x → slice_get (filter test xs) j ≡ Some y → Found test xs x y
filter_pair test [] x y i j before at later = absurd (cc)
filter_pair test (z ∷ xs) x y i j before at later = pair_step test z xs x y (test z) refl (λ k m h f g. filter_pair test xs x y k m h f g) i j before at later

pub passes_filter : {X : Type 0} (test : X → Bool) (xs : List X) (k : ℕ) (x : X) → slice_get xs k ≡ Some x → test x ≡ true → (i : ℕ) × (slice_get (filter test xs) i ≡ Some x)
passes_filter test [] k x h on = absurd (cc)
passes_filter test (y ∷ xs) zero x h on = let e : y ≡ x = cc in by (test y) (ap test e ∙ on)
  where
    by : (b : Bool) → b ≡ true → (i : ℕ) × (slice_get (if b then y ∷ filter test xs else filter test xs) i ≡ Some x)
    by true on = (zero, h)
    by false on = absurd (cc)
passes_filter test (y ∷ xs) (suc k) x h on = by (test y) (passes_filter test xs k x h on)
  where
    by : (b : Bool) → (i : ℕ) × (slice_get (filter test xs) i ≡ Some x) → (i : ℕ) × (slice_get (if b then y ∷ filter test xs else filter test xs) i ≡ Some x)
    by true w = (suc w.0, w.1)
    by false w = w
