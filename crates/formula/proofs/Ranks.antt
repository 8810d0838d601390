-- Places in the order of times: how many events have an earlier time.
use Rattle.std.proofs.Common.{◌≡◌, ℕ, ◌<◌, ◌≤◌, inl, inr, Bool, true, false, cond, not, ◌&&◌, ◌||◌, nat_lt, List, [], ◌∷◌, length, refl, sym, ◌∙◌, arith}
use Rattle.std.specs.List.{filter, range_with_len, list_any}
use Rattle.std.proofs.lemmas.Bool.{cases_lt}
use Rattle.std.proofs.lemmas.Bool.Decides.{nat_tests}
use Rattle.std.proofs.lemmas.List.FromFn.{length-range_with_len}
use Rattle.formula.specs.Orders.{rank_in_time}
use Rattle.formula.specs.Laws.{RanksAreClocks}
use Rattle.formula.proofs.Elements.{and_both, any_range}

-- ---- how many pass a test

fewer_step : {X : Type 0} (x : X) (b c : Bool) (few many : List X) → (b ≡ true → c ≡ true) → length few ≤ length many → length (cond b (x ∷ few) few) ≤ length (cond c (x ∷ many) many)
fewer_step x true true few many h k = omega (arith, k)
fewer_step x true false few many h k = absurd (let e : false ≡ true = h refl in cc)
fewer_step x false true few many h k = omega (arith, k)
fewer_step x false false few many h k = k

-- a weaker test is passed by no fewer
fewer : {X : Type 0} (strong weak : X → Bool) → ((x : X) → strong x ≡ true → weak x ≡ true) → (xs : List X) → length (filter strong xs) ≤ length (filter weak xs)
fewer strong weak h [] = omega arith
fewer strong weak h (x ∷ xs) = fewer_step x (strong x) (weak x) (filter strong xs) (filter weak xs) (h x) (fewer strong weak h xs)

less_step : {X : Type 0} (x : X) (b c found : Bool) (few many : List X) → (b ≡ true → c ≡ true) → length few ≤ length many → (found ≡ true → length few < length many) → ((c && not b) || found) ≡ true → length (cond b (x ∷ few) few) < length (cond c (x ∷ many) many)
less_step x true true found few many h k less e = let s = less e in omega (arith, s)
less_step x true false found few many h k less e = absurd (let e : false ≡ true = h refl in cc)
less_step x false true found few many h k less e = omega (arith, k)
less_step x false false found few many h k less e = less e

-- and by more, where one passes that alone
less : {X : Type 0} (strong weak : X → Bool) → ((x : X) → strong x ≡ true → weak x ≡ true) → (xs : List X) → list_any (λ x. weak x && not (strong x)) xs ≡ true → length (filter strong xs) < length (filter weak xs)
less strong weak h [] e = absurd cc
less strong weak h (x ∷ xs) e =
    less_step x (strong x) (weak x) (list_any (λ y. weak y && not (strong y)) xs) (filter strong xs) (filter weak xs) (h x) (fewer strong weak h xs) (less strong weak h xs) e

all_pass : {X : Type 0} (xs : List X) → length (filter (λ (x : X). true) xs) ≡ length xs
all_pass [] = refl
all_pass (x ∷ xs) = let e = all_pass xs in omega (arith, e)

-- ---- times

not_itself : (n : ℕ) → not (nat_lt n n) ≡ true
not_itself n = grind (arith, nat_tests)

test_of : (a b : ℕ) → a < b → nat_lt a b ≡ true
test_of a b h = grind (arith, nat_tests)

no_test_of : (a b : ℕ) → b ≤ a → nat_lt a b ≡ false
no_test_of a b h = grind (arith, nat_tests)

before_later : (a b c : ℕ) → b ≤ c → nat_lt a b ≡ true → nat_lt a c ≡ true
before_later a b c h e = grind (arith, nat_tests)

rank_below : (most : ℕ) (time : ℕ → ℕ) (e : ℕ) → e < most → rank_in_time most time e < most
rank_below most time e below =
    let strong : ℕ → Bool = λ f. nat_lt (time f) (time e) in
    let weak : ℕ → Bool = λ f. true in
    let found = any_range (λ f. true && not (strong f)) 0 most e (omega arith) (omega (arith, below)) (not_itself (time e)) in
    let h = less strong weak (λ f passes. refl) (range_with_len 0 most) found in
    let all = all_pass (range_with_len 0 most) in
    let size = length-range_with_len 0 most in
    omega (arith, h, all, size)

rank_less : (most : ℕ) (time : ℕ → ℕ) (e f : ℕ) → e < most → time e < time f → rank_in_time most time e < rank_in_time most time f
rank_less most time e f below first =
    let strong : ℕ → Bool = λ g. nat_lt (time g) (time e) in
    let weak : ℕ → Bool = λ g. nat_lt (time g) (time f) in
    less strong weak (λ g. before_later (time g) (time e) (time f) (omega (arith, first))) (range_with_len 0 most)
    (any_range (λ g. weak g && not (strong g)) 0 most e (omega arith) (omega (arith, below))
    (and_both (nat_lt (time e) (time f)) (not (nat_lt (time e) (time e))) (test_of (time e) (time f) first) (not_itself (time e))))

rank_no_less : (most : ℕ) (time : ℕ → ℕ) (e f : ℕ) → time f ≤ time e → rank_in_time most time f ≤ rank_in_time most time e
rank_no_less most time e f h =
    fewer (λ g. nat_lt (time g) (time f)) (λ g. nat_lt (time g) (time e)) (λ g. before_later (time g) (time f) (time e) h) (range_with_len 0 most)

rank_tells : (most : ℕ) (time : ℕ → ℕ) (e f : ℕ) → e < most → nat_lt (rank_in_time most time e) (rank_in_time most time f) ≡ nat_lt (time e) (time f)
rank_tells most time e f below =
    elim (cases_lt (time e) (time f)) [
      | inl h ↦
          test_of (rank_in_time most time e) (rank_in_time most time f) (rank_less most time e f below h) ∙ sym (test_of (time e) (time f) h)
      | inr h ↦
          no_test_of (rank_in_time most time e) (rank_in_time most time f) (rank_no_less most time e f (omega (arith, h))) ∙
          sym (no_test_of (time e) (time f) (omega (arith, h)))
    ]

pub ranks_are_clocks : RanksAreClocks
ranks_are_clocks most time e below = (rank_below most time e below, λ f. rank_tells most time e f below)
