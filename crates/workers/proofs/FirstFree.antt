-- The first of some numbers that passes a test.
use Rattle.std.proofs.Common.{◌≡◌, ℕ, ◌+◌, ◌-◌, ◌<◌, zero, suc, Bool, true, false, List, ◌++◌, Option, None, Some, cond, ap, refl, sym, arith, ◌∙◌}
use Rattle.std.specs.List.{find, range_with_len}
use Rattle.std.specs.Option.{option_or}
use Rattle.std.proofs.lemmas.List.Folds.{find-append}

-- the first of the numbers from a on that passes is a, or it is among the others
find_from : (p : ℕ → Bool) (a n : ℕ) → 0 < n → find p (range_with_len a n) ≡ cond (p a) (Some a) (find p (range_with_len (a + 1) (n - 1)))
find_from p a zero low = let never : ⊥ = omega (arith, low) in absurd never
find_from p a (suc n) low =
    let left : n ≡ suc n - 1 = omega arith in
    ap (λ (m : ℕ). cond (p a) (Some a) (find p (range_with_len (a + 1) m))) left

-- a doesn't pass
pub found_later : (p : ℕ → Bool) (place count : ℕ) → place < count → p (place + 1) ≡ false → find p (range_with_len 1 count) ≡ find p (range_with_len (place + 1) (count - place)) → find p (range_with_len 1 count) ≡ find p (range_with_len (place + 1 + 1) (count - (place + 1)))
found_later p place count low fails so_far =
    let left : count - place - 1 ≡ count - (place + 1) = omega arith in
    so_far
    ∙ find_from p (place + 1) (count - place) (omega (arith, low))
    ∙ ap (λ (b : Bool). cond b (Some (place + 1)) (find p (range_with_len (place + 1 + 1) (count - place - 1)))) fails
    ∙ ap (λ (n : ℕ). find p (range_with_len (place + 1 + 1) n)) left

-- one of the first list is found
pub found_first : (p : ℕ → Bool) (xs ys : List ℕ) (x : ℕ) → find p xs ≡ Some x → Some x ≡ find p (xs ++ ys)
found_first p xs ys x there =
    sym (find-append p xs ys ∙ ap (λ (o : Option ℕ). option_or o (find p ys)) there)

-- none of the first list is
pub found_second : (p : ℕ → Bool) (xs ys : List ℕ) (result : Option ℕ) → find p xs ≡ None → result ≡ find p ys → result ≡ find p (xs ++ ys)
found_second p xs ys result none is =
    is ∙ sym (find-append p xs ys ∙ ap (λ (o : Option ℕ). option_or o (find p ys)) none)
