-- Lists in rank order without the first calls of each rank.
use Rattle.std.proofs.Common.{◌≡◌, ℕ, zero, suc, ◌+◌, ◌<◌, ◌≤◌, ◌⊎◌, inl, inr, Bool, true, false, cond, nat_lt, if◌then◌else◌, List, [], ◌∷◌, map, Some, slice_get, refl, sym, ap, ◌∙◌, subst, arith}
use Rattle.std.proofs.lemmas.Bool.{cases_lt}
use Rattle.std.proofs.lemmas.Bool.Decides.{nat_tests}
use Rattle.std.proofs.lemmas.Option.{same_Some}
use Rattle.callorder.specs.declared.calls.Call.{Call}
use Rattle.phases.specs.Rests.{drop_front, lowered_call}
use Rattle.phases.proofs.Joining.{Rising, rising_low, rising_lower, lower, one_lower, none_lower, at_suc, at_zero, passing_cons}

-- for each call of the first list one of its rank in the second
abbrev pub Fits : List Call → List Call → Type 0
Fits [] ys = Unit {0}
Fits (x ∷ xs) [] = ⊥
Fits (x ∷ xs) (y ∷ ys) = ((y.rank < x.rank) × Fits (x ∷ xs) ys) ⊎ ((y.rank ≡ x.rank) × Fits xs ys)

-- the second list has as many calls of each rank as the first, or more
abbrev pub Covers : List Call → List Call → Type 0
Covers xs ys = (r : ℕ) → lower (r + 1) xs + lower r ys ≤ lower (r + 1) ys + lower r xs

not_lower : (r : ℕ) (x : Call) (xs : List Call) → r ≤ x.rank → lower r (x ∷ xs) ≡ lower r xs
not_lower r x xs h =
    let off : nat_lt x.rank r ≡ false = grind (arith, nat_tests) in
    let none : cond (nat_lt x.rank r) 1 0 ≡ 0 + 0 = ap (λ (b : Bool). cond b 1 0) off in
    omega (arith, none, passing_cons (λ call. nat_lt call.rank r) x xs)

-- the head of the second list is of a lower rank than all of the first
covers_behind : (r : ℕ) (x y : Call) (xs ys : List Call) → Rising x.rank xs → Rising y.rank ys → y.rank < x.rank → lower (r + 1) (x ∷ xs) + lower r (y ∷ ys) ≤ lower (r + 1) (y ∷ ys) + lower r (x ∷ xs) → lower (r + 1) (x ∷ xs) + lower r ys ≤ lower (r + 1) ys + lower r (x ∷ xs)
covers_behind r x y xs ys rises_x rises_y below h =
    elim (cases_lt y.rank r) [
      | inl low ↦ omega (arith, h, one_lower r y ys low, one_lower (r + 1) y ys (omega (arith, low)))
      | inr high ↦ elim (cases_lt r y.rank) [
        | inl over ↦ omega (arith, h, not_lower r y ys high, not_lower (r + 1) y ys (omega (arith, over)))
        | inr upto ↦
            let none = none_lower (r + 1) x.rank (x ∷ xs) (omega arith, rises_x) (omega (arith, below, upto)) in
            omega (arith, none, none_lower r y.rank ys rises_y high)
      ]
    ]

-- both heads are of one rank
covers_both : (r : ℕ) (x y : Call) (xs ys : List Call) → y.rank ≡ x.rank → lower (r + 1) (x ∷ xs) + lower r (y ∷ ys) ≤ lower (r + 1) (y ∷ ys) + lower r (x ∷ xs) → lower (r + 1) xs + lower r ys ≤ lower (r + 1) ys + lower r xs
covers_both r x y xs ys same h =
    elim (cases_lt x.rank r) [
      | inl low ↦ omega (arith, h, one_lower r y ys (omega (arith, low, same)), one_lower (r + 1) y ys (omega (arith, low, same)), one_lower r x xs low, one_lower (r + 1) x xs (omega (arith, low)))
      | inr high ↦ elim (cases_lt r x.rank) [
        | inl over ↦ omega (arith, h, not_lower r y ys (omega (arith, high, same)), not_lower (r + 1) y ys (omega (arith, over, same)), not_lower r x xs high, not_lower (r + 1) x xs (omega (arith, over)))
        | inr upto ↦ omega (arith, h, not_lower r y ys (omega (arith, high, same)), one_lower (r + 1) y ys (omega (arith, upto, same)), not_lower r x xs high, one_lower (r + 1) x xs (omega (arith, upto)))
      ]
    ]

-- the head of the first list is of a lower rank than all of the second, or the second has none
uncovered : (x : Call) (xs ys : List Call) (low : ℕ) → Rising x.rank xs → Rising low ys → x.rank < low → Covers (x ∷ xs) ys → ⊥
uncovered x xs ys low rises_x rises_y over covers =
    let h = covers x.rank in
    omega (arith, h, one_lower (x.rank + 1) x xs (omega arith), none_lower x.rank x.rank (x ∷ xs) (omega arith, rises_x) (omega arith), none_lower (x.rank + 1) low ys rises_y (omega (arith, over)))

pub fits : (low less : ℕ) (xs ys : List Call) → Rising low xs → Rising less ys → Covers xs ys → Fits xs ys
fits low less [] ys rises_x rises_y covers = tt
fits low less (x ∷ xs) [] rises_x rises_y covers = absurd (uncovered x xs [] (x.rank + 1) rises_x.1 tt (omega arith) covers)
fits low less (x ∷ xs) (y ∷ ys) rises_x rises_y covers =
    elim (cases_lt y.rank x.rank) [
      | inl below ↦ inl (below, fits low y.rank (x ∷ xs) ys rises_x rises_y.1 (λ r. covers_behind r x y xs ys rises_x.1 rises_y.1 below (covers r)))
      | inr above ↦ elim (cases_lt x.rank y.rank) [
        | inl over ↦ absurd (uncovered x xs (y ∷ ys) y.rank rises_x.1 (omega arith, rises_y.1) over covers)
        | inr upto ↦
            let same : y.rank ≡ x.rank = omega (arith, above, upto) in
            inr (same, fits x.rank y.rank xs ys rises_x.1 rises_y.1 (λ r. covers_both r x y xs ys same (covers r)))
      ]
    ]

-- ---- what stays

stays : (x y : Call) (xs ys : List Call) → y.rank < x.rank → drop_front (x ∷ xs) (y ∷ ys) ≡ y ∷ drop_front (x ∷ xs) ys
stays x y xs ys h =
    let on : nat_lt y.rank x.rank ≡ true = grind (arith, nat_tests) in
    ap (λ (b : Bool). if b then y ∷ drop_front (x ∷ xs) ys else drop_front xs ys) on

goes : (x y : Call) (xs ys : List Call) → y.rank ≡ x.rank → drop_front (x ∷ xs) (y ∷ ys) ≡ drop_front xs ys
goes x y xs ys h =
    let off : nat_lt y.rank x.rank ≡ false = grind (arith, nat_tests) in
    ap (λ (b : Bool). if b then y ∷ drop_front (x ∷ xs) ys else drop_front xs ys) off

pub drop_lower : (r : ℕ) (xs ys : List Call) → Fits xs ys → lower r (drop_front xs ys) + lower r xs ≡ lower r ys
drop_lower r [] ys fit = let none : lower r [] ≡ 0 + 0 = refl in omega (arith, none)
drop_lower r (x ∷ xs) [] fit = absurd fit
drop_lower r (x ∷ xs) (y ∷ ys) (inl w) =
    let e : lower r (drop_front (x ∷ xs) (y ∷ ys)) ≡ lower r (y ∷ drop_front (x ∷ xs) ys) = ap (lower r) (stays x y xs ys w.0) in
    omega (arith, e, drop_lower r (x ∷ xs) ys w.1, passing_cons (λ call. nat_lt call.rank r) y ys, passing_cons (λ call. nat_lt call.rank r) y (drop_front (x ∷ xs) ys))
drop_lower r (x ∷ xs) (y ∷ ys) (inr w) =
    let e : lower r (drop_front (x ∷ xs) (y ∷ ys)) ≡ lower r (drop_front xs ys) = ap (lower r) (goes x y xs ys w.0) in
    let same = ap (λ (k : ℕ). cond {A = ℕ} (nat_lt k r) 1 0) w.0 in
    omega (arith, e, same, drop_lower r xs ys w.1, passing_cons (λ call. nat_lt call.rank r) y ys, passing_cons (λ call. nat_lt call.rank r) x xs)

pub drop_rises : (low : ℕ) (xs ys : List Call) → Fits xs ys → Rising low ys → Rising low (drop_front xs ys)
drop_rises low [] ys fit rises = rises
drop_rises low (x ∷ xs) [] fit rises = tt
drop_rises low (x ∷ xs) (y ∷ ys) (inl w) rises = subst (Rising low) (sym (stays x y xs ys w.0)) (rises.0, drop_rises y.rank (x ∷ xs) ys w.1 rises.1)
drop_rises low (x ∷ xs) (y ∷ ys) (inr w) rises =
    subst (Rising low) (sym (goes x y xs ys w.0)) (rising_lower y.rank low (drop_front xs ys) rises.0 (drop_rises y.rank xs ys w.1 rises.1))

-- where what stays stood
pub drop_place : (low less : ℕ) (xs ys : List Call) (c : ℕ) (y : Call) → Fits xs ys → Rising low xs → Rising less ys → slice_get (drop_front xs ys) c ≡ Some y → slice_get ys (c + lower (y.rank + 1) xs) ≡ Some y
drop_place low less [] ys c y fit rises_x rises_y there = ap (slice_get ys) (let e : c + 0 ≡ c = omega arith in e) ∙ there
drop_place low less (x ∷ xs) [] c y fit rises_x rises_y there = absurd fit
drop_place low less (x ∷ xs) (y0 ∷ ys) c y (inl w) rises_x rises_y there =
    placed (λ e at_e. drop_place low y0.rank (x ∷ xs) ys e y w.1 rises_x rises_y.1 at_e) c (sym (ap (λ (z : List Call). slice_get z c) (stays x y0 xs ys w.0)) ∙ there)
  where
    placed : ((e : ℕ) → slice_get (drop_front (x ∷ xs) ys) e ≡ Some y → slice_get ys (e + lower (y.rank + 1) (x ∷ xs)) ≡ Some y) → (c : ℕ) → slice_get (y0 ∷ drop_front (x ∷ xs) ys) c ≡ Some y → slice_get (y0 ∷ ys) (c + lower (y.rank + 1) (x ∷ xs)) ≡ Some y
    placed rest zero at =
        let same : y0 ≡ y = same_Some y0 y at in
        at_zero (y0 ∷ ys) ys y0 y (0 + lower (y.rank + 1) (x ∷ xs)) refl
        (let none = none_lower (y.rank + 1) x.rank (x ∷ xs) (omega arith, rises_x.1) (omega (arith, w.0, ap (λ (z : Call). z.rank) same)) in omega (arith, none)) same
    placed rest (suc e) at = at_suc (y0 ∷ ys) ys y0 y (suc e + lower (y.rank + 1) (x ∷ xs)) (e + lower (y.rank + 1) (x ∷ xs)) refl (omega arith) (rest e at)
drop_place low less (x ∷ xs) (y0 ∷ ys) c y (inr w) rises_x rises_y there =
    let at = sym (ap (λ (z : List Call). slice_get z c) (goes x y0 xs ys w.0)) ∙ there in
    let rest = drop_place x.rank y0.rank xs ys c y w.1 rises_x.1 rises_y.1 at in
    let high : y0.rank ≤ y.rank = rising_low y0.rank ys (c + lower (y.rank + 1) xs) y rises_y.1 rest in
    at_suc (y0 ∷ ys) ys y0 y (c + lower (y.rank + 1) (x ∷ xs)) (c + lower (y.rank + 1) xs) refl (omega (arith, one_lower (y.rank + 1) x xs (omega (arith, high, w.0)))) rest

-- ---- lowered calls

module _ (shift : Call → ℕ) where
  abbrev pub lowered : List Call → List Call
  lowered xs = map (λ call. lowered_call (shift call) call) xs

  pub lowered_rises : (low : ℕ) (xs : List Call) → Rising low xs → Rising low (lowered xs)
  lowered_rises low [] rises = tt
  lowered_rises low (x ∷ xs) rises = (rises.0, lowered_rises x.rank xs rises.1)

  pub lowered_lower : (r : ℕ) (xs : List Call) → lower r (lowered xs) ≡ lower r xs
  lowered_lower r [] = refl
  lowered_lower r (x ∷ xs) =
      omega (arith, lowered_lower r xs, passing_cons (λ call. nat_lt call.rank r) x xs, passing_cons (λ call. nat_lt call.rank r) (lowered_call (shift x) x) (lowered xs))

  pub lowered_from : (xs : List Call) (c : ℕ) (x : Call) → slice_get (lowered xs) c ≡ Some x → (y : Call) × (slice_get xs c ≡ Some y) × (x ≡ lowered_call (shift y) y)
  lowered_from [] c x there = absurd (cc)
  lowered_from (y ∷ ys) zero x there = (y, refl, sym (same_Some (lowered_call (shift y) y) x there))
  lowered_from (y ∷ ys) (suc c) x there = lowered_from ys c x there
