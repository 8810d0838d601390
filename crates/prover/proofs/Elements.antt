-- What a filter of a list holds.
use Rattle.std.proofs.Common.{◌≡◌, ℕ, ◌<◌, Bool, true, false, cond, List, [], ◌∷◌, get_or, subst, ◌∙◌, arith}
use Rattle.std.specs.List.{All, Contains, filter, range_with_len}
use Rattle.std.proofs.lemmas.List.Elements.{All-nil, All-cons, All-weaker, All-contains, Contains-get_or, Contains-append_left, Contains-append_right, Contains-push}
use Rattle.std.proofs.lemmas.List.FromFn.{length-range_with_len, get_or-range_with_len}

module _ {X : Type 0} (test : X → Bool) where
  head_stays : (x : X) (kept : List X) (b : Bool) → b ≡ true → Contains (cond b (x ∷ kept) kept) x
  head_stays x kept true e = Contains-append_left (x ∷ []) kept x (Contains-push [] x)
  head_stays x kept false e = absurd cc

  tail_stays : (x y : X) (kept : List X) (b : Bool) → Contains kept y → Contains (cond b (x ∷ kept) kept) y
  tail_stays x y kept true there = Contains-append_right (x ∷ []) kept y there
  tail_stays x y kept false there = there

  all_stay : (xs : List X) → All (λ y. test y ≡ true → Contains (filter test xs) y) xs
  all_stay [] = All-nil _
  all_stay (x ∷ xs) =
      All-cons (λ y. test y ≡ true → Contains (filter test (x ∷ xs)) y) x xs (head_stays x (filter test xs) (test x))
      (All-weaker (λ y. test y ≡ true → Contains (filter test xs) y) (λ y. test y ≡ true → Contains (filter test (x ∷ xs)) y) (λ y there passes. tail_stays x y (filter test xs) (test x) (there passes)) xs (all_stay xs))

-- what passes stays
pub contains_filter : {X : Type 0} (test : X → Bool) (xs : List X) (x : X) → Contains xs x → test x ≡ true → Contains (filter test xs) x
contains_filter test xs x there = All-contains (λ y. test y ≡ true → Contains (filter test xs) y) xs x (all_stay test xs) there

-- the numbers below a bound that pass
pub contains_below : (test : ℕ → Bool) (bound x : ℕ) → x < bound → test x ≡ true → Contains (filter test (range_with_len 0 bound)) x
contains_below test bound x below passes =
    let is : get_or (range_with_len 0 bound) x 0 ≡ x = get_or-range_with_len 0 bound x 0 below ∙ omega arith in
    contains_filter test (range_with_len 0 bound) x
    (subst (Contains (range_with_len 0 bound)) is (Contains-get_or (range_with_len 0 bound) x 0 (omega (arith, length-range_with_len 0 bound)))) passes
