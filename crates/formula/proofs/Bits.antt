-- Two numbers are compared bit by bit, from the highest on: what this rests on, without a formula.
use Rattle.std.proofs.Common.{◌≡◌, ◌≢◌, ◌⊎◌, inl, inr, ℕ, zero, suc, ◌+◌, ◌-◌, ◌*◌, ◌/◌, ◌%◌, ◌^◌, ◌<◌, ◌≤◌, Bool, true, false, not, ◌==◌, nat_lt, if◌then◌else◌, refl, sym, ap, ◌∙◌, subst, arith}
use Rattle.std.specs.Int.{bit_at}
use Rattle.std.proofs.lemmas.Bool.{cases_eq}
use Rattle.std.proofs.lemmas.Bool.Decides.{nat_tests}
use Rattle.std.specs.Prelude.{nat_le, get_or}
use Rattle.std.specs.List.{range_with_len}
use Rattle.std.proofs.Math.Nat.{div-one, div-eq_of_lt, div-div-eq-div-mul, pow-suc}
use Rattle.std.proofs.lemmas.List.FromFn.{get_or-range_with_len, length-range_with_len}
use Rattle.std.proofs.lemmas.List.Sums.{passes_at_first}
use Rattle.formula.specs.Orders.{first_bits, bit_of, bits_for}
use Rattle.formula.proofs.Elements.{any_range, position_within}

-- the number of a bit
abbrev number_of : Bool → ℕ
number_of b = if b then 1 else 0

number_below : (b : Bool) → number_of b < 2
number_below true = omega arith
number_below false = omega arith

same_number : (b c : Bool) → number_of b ≡ number_of c → b ≡ c
same_number true true e = refl
same_number false false e = refl
same_number true false e = absurd (omega (arith, e))
same_number false true e = absurd (omega (arith, e))

-- What the clauses at a bit say: where the bits so far are the same with this one (next), these
-- bits x and y are; where they are the same before it alone, the bit is the later one's, and the
-- flag tells whether that is the second.
pub record AtBit (before next x y flag : Bool) : Type 0 where
  pub agree : next ≡ true → x ≡ y
  pub first : before ≡ true → next ≡ false → x ≡ not flag
  pub second : before ≡ true → next ≡ false → y ≡ flag

-- the numbers differ, and the flag tells whether the first is smaller
pub record Compared (a b : ℕ) (flag : Bool) : Type 0 where
  pub differ : a ≢ b
  pub tells : flag ≡ nat_lt a b

-- ---- one more bit

order_stays : (a b x y : ℕ) → x < 2 → y < 2 → a ≢ b → nat_lt a b ≡ nat_lt (2 * a + x) (2 * b + y)
order_stays a b x y s t differ = grind (arith, nat_tests)

still_differ : (a b x y : ℕ) → x < 2 → y < 2 → a ≢ b → 2 * a + x ≢ 2 * b + y
still_differ a b x y s t differ e = differ (omega (arith, s, t, e))

one_more : (a b : ℕ) (x y flag : Bool) → Compared a b flag → Compared (2 * a + number_of x) (2 * b + number_of y) flag
one_more a b x y flag c =
    record {
      differ = still_differ a b (number_of x) (number_of y) (number_below x) (number_below y) c.differ;
      tells = c.tells ∙ order_stays a b (number_of x) (number_of y) (number_below x) (number_below y) c.differ;
    }

first_difference : (a b : ℕ) (x y flag : Bool) → a ≡ b → x ≡ not flag → y ≡ flag → Compared (2 * a + number_of x) (2 * b + number_of y) flag
first_difference a b true false false same e f =
    record {
      differ = λ h. absurd (omega (arith, same, h));
      tells = grind (arith, nat_tests);
    }
first_difference a b false true true same e f =
    record {
      differ = λ h. absurd (omega (arith, same, h));
      tells = grind (arith, nat_tests);
    }
first_difference a b true y true same e f = absurd cc
first_difference a b false y false same e f = absurd cc
first_difference a b true true false same e f = absurd cc
first_difference a b false false true same e f = absurd cc

-- ---- the clauses compare

-- the first bits are the same, or the numbers that they make are compared
abbrev SoFar : (ℕ → Bool) → (ℕ → Bool) → (ℕ → Bool) → Bool → ℕ → Type 0
SoFar same a b flag n = ((first_bits a n ≡ first_bits b n) × (same n ≡ true)) ⊎ Compared (first_bits a n) (first_bits b n) flag

next_same : (a b : ℕ) (x y : Bool) → a ≡ b → x ≡ y → 2 * a + number_of x ≡ 2 * b + number_of y
next_same a b true true e f = omega (arith, e)
next_same a b false false e f = omega (arith, e)
next_same a b true false e f = absurd cc
next_same a b false true e f = absurd cc

equal_step : (same a b : ℕ → Bool) (flag : Bool) (n : ℕ) (next : Bool) → same (suc n) ≡ next → AtBit (same n) (same (suc n)) (a n) (b n) flag → first_bits a n ≡ first_bits b n → same n ≡ true → SoFar same a b flag (suc n)
equal_step same a b flag n true is at e f = inl (next_same (first_bits a n) (first_bits b n) (a n) (b n) e (at.agree is), is)
equal_step same a b flag n false is at e f =
    inr (first_difference (first_bits a n) (first_bits b n) (a n) (b n) flag e (at.first f is) (at.second f is))

so_far_step : (same a b : ℕ → Bool) (flag : Bool) (n : ℕ) → AtBit (same n) (same (suc n)) (a n) (b n) flag → SoFar same a b flag n → SoFar same a b flag (suc n)
so_far_step same a b flag n at (inl h) = equal_step same a b flag n (same (suc n)) refl at h.0 h.1
so_far_step same a b flag n at (inr h) = inr (one_more (first_bits a n) (first_bits b n) (a n) (b n) flag h)

so_far : (same a b : ℕ → Bool) (flag : Bool) (n : ℕ) → same 0 ≡ true → ((i : ℕ) → i < n → AtBit (same i) (same (suc i)) (a i) (b i) flag) → SoFar same a b flag n
so_far same a b flag zero start at = inl (refl, start)
so_far same a b flag (suc n) start at =
    so_far_step same a b flag n (at n (omega arith)) (so_far same a b flag n start (λ i below. at i (omega (arith, below))))

ended : (same a b : ℕ → Bool) (flag : Bool) (n : ℕ) → same n ≡ false → SoFar same a b flag n → Compared (first_bits a n) (first_bits b n) flag
ended same a b flag n is (inl h) = absurd (let e : true ≡ false = sym h.1 ∙ is in cc)
ended same a b flag n is (inr h) = h

-- what is said bit by bit compares the numbers
pub compared : (same a b : ℕ → Bool) (flag : Bool) (n : ℕ) → same 0 ≡ true → same n ≡ false → ((i : ℕ) → i < n → AtBit (same i) (same (suc i)) (a i) (b i) flag) → Compared (first_bits a n) (first_bits b n) flag
compared same a b flag n start end at = ended same a b flag n end (so_far same a b flag n start at)

-- ---- numbers meet the clauses

-- once the first bits differ, they tell the order of the numbers
first_tell_step : (a b : ℕ → Bool) (i n : ℕ) → first_bits a i ≢ first_bits b i → i ≤ suc n → (i ≤ n → Compared (first_bits a n) (first_bits b n) (nat_lt (first_bits a i) (first_bits b i))) → Compared (first_bits a (suc n)) (first_bits b (suc n)) (nat_lt (first_bits a i) (first_bits b i))
first_tell_step a b i n differ most rest =
    elim (cases_eq i (suc n)) [
      | inl e ↦ subst (λ (z : ℕ). Compared (first_bits a z) (first_bits b z) (nat_lt (first_bits a i) (first_bits b i))) e (record { differ = differ; tells = refl })
      | inr other ↦
          one_more (first_bits a n) (first_bits b n) (a n) (b n) (nat_lt (first_bits a i) (first_bits b i)) (rest (omega (arith, most, other)))
    ]

first_tell : (a b : ℕ → Bool) (i n : ℕ) → first_bits a i ≢ first_bits b i → i ≤ n → Compared (first_bits a n) (first_bits b n) (nat_lt (first_bits a i) (first_bits b i))
first_tell a b i zero differ most =
    let e : i ≡ 0 = omega (arith, most) in
    subst (λ (z : ℕ). Compared (first_bits a z) (first_bits b z) (nat_lt (first_bits a i) (first_bits b i))) e (record { differ = differ; tells = refl })
first_tell a b i (suc n) differ most = first_tell_step a b i n differ most (λ h. first_tell a b i n differ h)

equal_test : (a b : ℕ) → (a == b) ≡ true → a ≡ b
equal_test a b e = grind (arith, nat_tests)

other_test : (a b : ℕ) → (a == b) ≡ false → a ≢ b
other_test a b e h = grind (arith, nat_tests)

same_bit : (a b : ℕ) (x y : Bool) → 2 * a + number_of x ≡ 2 * b + number_of y → x ≡ y
same_bit a b x y e = same_number x y (omega (arith, number_below x, number_below y, e))

flag_is : (a b : ℕ) (x y : Bool) → a ≡ b → 2 * a + number_of x ≢ 2 * b + number_of y → (x ≡ not (nat_lt (2 * a + number_of x) (2 * b + number_of y))) × (y ≡ nat_lt (2 * a + number_of x) (2 * b + number_of y))
flag_is a b true false e differ = (grind (arith, nat_tests), grind (arith, nat_tests))
flag_is a b false true e differ = (grind (arith, nat_tests), grind (arith, nat_tests))
flag_is a b true true e differ = absurd (differ (omega (arith, e)))
flag_is a b false false e differ = absurd (differ (omega (arith, e)))

-- numbers that differ meet what is said bit by bit, where the flag tells their order
pub at_each_bit : (a b : ℕ → Bool) (n i : ℕ) → i < n → AtBit (first_bits a i == first_bits b i) (first_bits a (suc i) == first_bits b (suc i)) (a i) (b i) (nat_lt (first_bits a n) (first_bits b n))
at_each_bit a b n i below =
    let told : first_bits a (suc i) ≢ first_bits b (suc i) → nat_lt (first_bits a (suc i)) (first_bits b (suc i)) ≡ nat_lt (first_bits a n) (first_bits b n) =
    λ differ. (first_tell a b (suc i) n differ (omega (arith, below))).tells in
    record {
      agree = λ e. same_bit (first_bits a i) (first_bits b i) (a i) (b i) (equal_test (first_bits a (suc i)) (first_bits b (suc i)) e);
      first = λ e f.
          let differ = other_test (first_bits a (suc i)) (first_bits b (suc i)) f in
          (flag_is (first_bits a i) (first_bits b i) (a i) (b i) (equal_test (first_bits a i) (first_bits b i) e) differ).0 ∙ ap not (told differ);
      second = λ e f.
          let differ = other_test (first_bits a (suc i)) (first_bits b (suc i)) f in
          (flag_is (first_bits a i) (first_bits b i) (a i) (b i) (equal_test (first_bits a i) (first_bits b i) e) differ).1 ∙ told differ;
    }

-- ---- the bits of a number

pow_more : (n : ℕ) → n < 2 ^ n → suc n < 2 ^ suc n
pow_more n h = omega (arith, pow-suc 2 n, h)

below_power : (n : ℕ) → n < 2 ^ n
below_power zero = omega arith
below_power (suc n) = pow_more n (below_power n)

number_of_rest : (r : ℕ) → r < 2 → number_of (r == 1) ≡ r
number_of_rest zero h = refl
number_of_rest (suc zero) h = refl
number_of_rest (suc (suc r)) h = absurd (omega (arith, h))

halves : (x : ℕ) → 2 * (x / 2) + number_of (x % 2 == 1) ≡ x
halves x =
    let rest : x % 2 < 2 = omega arith in
    let number = number_of_rest (x % 2) rest in
    omega (arith, number)

half_more : (x j : ℕ) → x / 2 ^ j / 2 ≡ x / 2 ^ suc j
half_more x j = div-div-eq-div-mul x (2 ^ j) 2 ∙ ap (λ (z : ℕ). x / z) (sym (pow-suc 2 j))

one_bit : (x j : ℕ) → 2 * (x / 2 ^ suc j) + number_of (bit_at x j == 1) ≡ x / 2 ^ j
one_bit x j = ap (λ (z : ℕ). 2 * z + number_of (bit_at x j == 1)) (sym (half_more x j)) ∙ halves (x / 2 ^ j)

-- the first bits of a number are what is left of it without the others
pub first_bits_of : (size x n : ℕ) → x < 2 ^ size → n ≤ size → first_bits (bit_of size x) n ≡ x / 2 ^ (size - n)
first_bits_of size x zero fits most =
    let all : size ≡ size - 0 = omega arith in
    sym (div-eq_of_lt fits) ∙ ap (λ (z : ℕ). x / 2 ^ z) all
first_bits_of size x (suc n) fits most =
    let more : size - n ≡ suc (size - suc n) = omega (arith, most) in
    ap (λ (z : ℕ). 2 * z + number_of (bit_of size x n)) (first_bits_of size x n fits (omega (arith, most)) ∙ ap (λ (z : ℕ). x / 2 ^ z) more) ∙
    one_bit x (size - suc n)

pub all_bits_of : (size x : ℕ) → x < 2 ^ size → first_bits (bit_of size x) size ≡ x
all_bits_of size x fits =
    let none : size - size ≡ 0 = omega arith in
    first_bits_of size x size fits (omega arith) ∙ ap (λ (z : ℕ). x / 2 ^ z) none ∙ div-one x

-- ---- how many bits are enough

power_test : (most : ℕ) → 0 < most → nat_le most (2 ^ (most - 1)) ≡ true
power_test most positive = let h = below_power (most - 1) in let e : most ≤ 2 ^ (most - 1) = omega (arith, positive, h) in grind (arith, nat_tests)

is_at_most : (a b : ℕ) → nat_le a b ≡ true → a ≤ b
is_at_most a b h = grind (arith, nat_tests)

none_before : (n : ℕ) → 0 + n ≡ n
none_before n = omega arith

bits_for_some : (most : ℕ) → 0 < most → most ≤ 2 ^ bits_for most
bits_for_some most positive =
    let test : ℕ → Bool = λ k. nat_le most (2 ^ k) in
    let found = position_within test (range_with_len 0 most) (any_range test 0 most (most - 1) (omega arith) (omega (arith, positive)) (power_test most positive)) in
    let inside : bits_for most < most = omega (arith, found, length-range_with_len 0 most) in
    let at : get_or (range_with_len 0 most) (bits_for most) 0 ≡ bits_for most = get_or-range_with_len 0 most (bits_for most) 0 inside ∙ none_before (bits_for most) in
    is_at_most most (2 ^ bits_for most) (subst (λ (z : ℕ). test z ≡ true) at (passes_at_first test (range_with_len 0 most) 0 found))

pub bits_for_enough : (most : ℕ) → most ≤ 2 ^ bits_for most
bits_for_enough zero = omega arith
bits_for_enough (suc most) = bits_for_some (suc most) (omega arith)

pub bits_for_two : (most : ℕ) → 1 < most → 0 < bits_for most
bits_for_two most two =
    elim (cases_eq (bits_for most) 0) [
      | inl e ↦ absurd (omega (arith, two, subst (λ (z : ℕ). most ≤ 2 ^ z) e (bits_for_enough most)))
      | inr other ↦ omega (arith, other)
    ]
