-- The clauses of one pair of events: an assignment satisfies them exactly where the bits compare
-- the clocks.
use Rattle.std.proofs.Common.{◌≡◌, ℕ, zero, suc, ◌<◌, ◌≤◌, inl, inr, ◌==◌, Bool, true, false, not, ◌&&◌, ◌||◌, nat_lt, if◌then◌else◌, List, [], ◌∷◌, ◌++◌, refl, sym, ap, ◌∙◌, subst, arith}
use Rattle.std.specs.List.{range_with_len, list_any, list_all}
use Rattle.std.proofs.lemmas.Bool.{and_parts, cases_eq}
use Rattle.std.proofs.lemmas.Bool.Decides.{nat_tests}
use Rattle.std.proofs.lemmas.List.Folds.{list_any-append, list_all-append}
use Rattle.clauses.specs.Clauses.{signed}
use Rattle.formula.specs.Facts.{Meaning, clock_bit, before, same_bits}
use Rattle.formula.specs.Orders.{first_bits, SignedMeaning, so, not_so, differ_before, same_up_to, bits_agree, bit_decides, pair_clauses}
use Rattle.formula.proofs.Elements.{and_both, all_append, all_flat_map, each_range, each_from_all, each_range_at}
use Rattle.formula.proofs.Bits.{AtBit, Compared, compared, at_each_bit}

-- ---- tests over the values of variables

-- the two clauses that the bits agree
abbrev agree_test : Bool → Bool → Bool → Bool
agree_test x y v = (not x || (y || (not v || false))) && ((x || (not y || (not v || false))) && true)

-- the four clauses that the bit decides, with what else stands in each of them
abbrev decide_test : Bool → Bool → Bool → Bool → Bool
decide_test x y t o = (not x || (not t || o)) && ((y || (not t || o)) && ((x || (t || o)) && ((not y || (t || o)) && true)))

agree_at : (x y v : Bool) → agree_test x y v ≡ true → v ≡ true → x ≡ y
agree_at true true v e f = refl
agree_at true false true e f = absurd cc
agree_at true false false e f = absurd cc
agree_at false true true e f = absurd cc
agree_at false true false e f = absurd cc
agree_at false false v e f = refl

agree_true : (x y v : Bool) → (v ≡ true → x ≡ y) → agree_test x y v ≡ true
agree_true true true true h = refl
agree_true true true false h = refl
agree_true true false true h = absurd (let e : true ≡ false = h refl in cc)
agree_true true false false h = refl
agree_true false true true h = absurd (let e : false ≡ true = h refl in cc)
agree_true false true false h = refl
agree_true false false true h = refl
agree_true false false false h = refl

decide_first : (x y t o : Bool) → o ≡ false → decide_test x y t o ≡ true → x ≡ not t
decide_first true true true true e f = absurd cc
decide_first true true true false e f = absurd cc
decide_first true false true true e f = absurd cc
decide_first true false true false e f = absurd cc
decide_first true y false o e f = refl
decide_first false y true o e f = refl
decide_first false true false true e f = absurd cc
decide_first false true false false e f = absurd cc
decide_first false false false true e f = absurd cc
decide_first false false false false e f = absurd cc

decide_second : (x y t o : Bool) → o ≡ false → decide_test x y t o ≡ true → y ≡ t
decide_second x true true o e f = refl
decide_second true true false true e f = absurd cc
decide_second true true false false e f = absurd cc
decide_second false true false true e f = absurd cc
decide_second false true false false e f = absurd cc
decide_second true false true true e f = absurd cc
decide_second true false true false e f = absurd cc
decide_second false false true true e f = absurd cc
decide_second false false true false e f = absurd cc
decide_second x false false o e f = refl

decide_true : (x y t o : Bool) → (o ≡ false → x ≡ not t) → (o ≡ false → y ≡ t) → decide_test x y t o ≡ true
decide_true true true true true h k = refl
decide_true true true true false h k = absurd (let e : true ≡ false = h refl in cc)
decide_true true true false true h k = refl
decide_true true true false false h k = absurd (let e : true ≡ false = k refl in cc)
decide_true true false true true h k = refl
decide_true true false true false h k = absurd (let e : true ≡ false = h refl in cc)
decide_true true false false true h k = refl
decide_true true false false false h k = refl
decide_true false true true true h k = refl
decide_true false true true false h k = refl
decide_true false true false true h k = refl
decide_true false true false false h k = absurd (let e : false ≡ true = h refl in cc)
decide_true false false true true h k = refl
decide_true false false true false h k = absurd (let e : false ≡ true = k refl in cc)
decide_true false false false true h k = refl
decide_true false false false false h k = absurd (let e : false ≡ true = h refl in cc)

-- ---- the values of what is said

-- what is said with a sign is so, where each variable has this value
abbrev pub says : (Meaning → Bool) → SignedMeaning → Bool
says value x = signed x.positive (value x.meaning)

-- each of the clauses says something that is so
abbrev pub are_so : (Meaning → Bool) → List (List SignedMeaning) → Bool
are_so value clauses = list_all (list_any (says value)) clauses

-- the first bits of the two clocks are the same, as the variables say; none are, and all never
abbrev same_first : (Meaning → Bool) → ℕ → ℕ → ℕ → ℕ → Bool
same_first value size e f zero = true
same_first value size e f (suc i) = nat_lt (suc i) size && value (same_bits e f (suc i))

-- what stands in the clauses of a bit beside the bit and the order
abbrev elsewhere : (Meaning → Bool) → ℕ → ℕ → ℕ → ℕ → Bool
elsewhere value size e f i = list_any (says value) (differ_before e f i ++ same_up_to size e f i)

not_then : (v : Bool) → v ≡ true → (not v || false) ≡ false
not_then true e = refl
not_then false e = absurd cc

then_not : (v : Bool) → (not v || false) ≡ false → v ≡ true
then_not true e = refl
then_not false e = absurd cc

pub neither : (b c : Bool) → b ≡ false → c ≡ false → (b || c) ≡ false
neither false c e f = f
neither true c e f = absurd cc

both_false : (b c : Bool) → (b || c) ≡ false → (b ≡ false) × (c ≡ false)
both_false false c e = (refl, e)
both_false true c e = absurd cc

differ_false : (value : Meaning → Bool) (size e f i : ℕ) → same_first value size e f i ≡ true → list_any (says value) (differ_before e f i) ≡ false
differ_false value size e f zero h = refl
differ_false value size e f (suc i) h = not_then (value (same_bits e f (suc i))) ((and_parts (nat_lt (suc i) size) (value (same_bits e f (suc i))) h).1)

below_test : (a b : ℕ) → a < b → nat_lt a b ≡ true
below_test a b h = grind (arith, nat_tests)

same_then : (value : Meaning → Bool) (size e f i : ℕ) → i < size → list_any (says value) (differ_before e f i) ≡ false → same_first value size e f i ≡ true
same_then value size e f zero below h = refl
same_then value size e f (suc i) below h = and_both (nat_lt (suc i) size) (value (same_bits e f (suc i))) (below_test (suc i) size below) (then_not (value (same_bits e f (suc i))) h)

up_to_step : (value : Meaning → Bool) (m : Meaning) (b : Bool) → list_any (says value) (if b then so m ∷ [] else []) ≡ (b && value m)
up_to_step value m false = refl
up_to_step value m true = or_false (value m)
  where
    or_false : (b : Bool) → (b || false) ≡ b
    or_false true = refl
    or_false false = refl

up_to_is : (value : Meaning → Bool) (size e f i : ℕ) → list_any (says value) (same_up_to size e f i) ≡ same_first value size e f (suc i)
up_to_is value size e f i = up_to_step value (same_bits e f (suc i)) (nat_lt (suc i) size)

elsewhere_false : (value : Meaning → Bool) (size e f i : ℕ) → same_first value size e f i ≡ true → same_first value size e f (suc i) ≡ false → elsewhere value size e f i ≡ false
elsewhere_false value size e f i h k =
    list_any-append (says value) (differ_before e f i) (same_up_to size e f i) ∙
    neither (list_any (says value) (differ_before e f i)) (list_any (says value) (same_up_to size e f i)) (differ_false value size e f i h) (up_to_is value size e f i ∙ k)

elsewhere_then : (value : Meaning → Bool) (size e f i : ℕ) → i < size → elsewhere value size e f i ≡ false → (same_first value size e f i ≡ true) × (same_first value size e f (suc i) ≡ false)
elsewhere_then value size e f i below h =
    let parts = both_false (list_any (says value) (differ_before e f i)) (list_any (says value) (same_up_to size e f i)) (sym (list_any-append (says value) (differ_before e f i) (same_up_to size e f i)) ∙ h) in
    (same_then value size e f i below parts.0, sym (up_to_is value size e f i) ∙ parts.1)

-- ---- from the clauses to clocks

agree_of : (value : Meaning → Bool) (e f i : ℕ) (b : Bool) → are_so value (if b then (not_so (clock_bit e i) ∷ so (clock_bit f i) ∷ not_so (same_bits e f (suc i)) ∷ []) ∷ (so (clock_bit e i) ∷ not_so (clock_bit f i) ∷ not_so (same_bits e f (suc i)) ∷ []) ∷ [] else []) ≡ true → (b && value (same_bits e f (suc i))) ≡ true → value (clock_bit e i) ≡ value (clock_bit f i)
agree_of value e f i true h k = agree_at (value (clock_bit e i)) (value (clock_bit f i)) (value (same_bits e f (suc i))) h k
agree_of value e f i false h k = absurd cc

at_bit : (value : Meaning → Bool) (size e f i : ℕ) → are_so value (bits_agree size e f i) ≡ true → are_so value (bit_decides size e f i) ≡ true → AtBit (same_first value size e f i) (same_first value size e f (suc i)) (value (clock_bit e i)) (value (clock_bit f i)) (value (before e f))
at_bit value size e f i h k =
    record {
      agree = agree_of value e f i (nat_lt (suc i) size) h;
      first = λ u v. decide_first (value (clock_bit e i)) (value (clock_bit f i)) (value (before e f)) (elsewhere value size e f i) (elsewhere_false value size e f i u v) k;
      second = λ u v. decide_second (value (clock_bit e i)) (value (clock_bit f i)) (value (before e f)) (elsewhere value size e f i) (elsewhere_false value size e f i u v) k;
    }

not_below_itself : (n : ℕ) (b : Bool) → (nat_lt n n && b) ≡ false
not_below_itself n b = let e : nat_lt n n ≡ false = grind (arith, nat_tests) in ap (λ z. z && b) e

never_all : (value : Meaning → Bool) (size e f : ℕ) → 0 < size → same_first value size e f size ≡ false
never_all value zero e f positive = absurd (omega (arith, positive))
never_all value (suc size) e f positive = not_below_itself (suc size) (value (same_bits e f (suc size)))

pub pair_compared : (value : Meaning → Bool) (size e f : ℕ) → 0 < size → are_so value (pair_clauses size (e, f)) ≡ true → Compared (first_bits (λ i. value (clock_bit e i)) size) (first_bits (λ i. value (clock_bit f i)) size) (value (before e f))
pair_compared value size e f positive h =
    let test : List SignedMeaning → Bool = list_any (says value) in
    let parts = each_from_all test (λ i. bits_agree size e f i ++ bit_decides size e f i) (range_with_len 0 size) h in
    compared (same_first value size e f) (λ i. value (clock_bit e i)) (λ i. value (clock_bit f i)) (value (before e f)) size refl (never_all value size e f positive) (λ i below.
    let here : are_so value (bits_agree size e f i ++ bit_decides size e f i) ≡ true =
    each_range_at (λ j. are_so value (bits_agree size e f j ++ bit_decides size e f j) ≡ true) 0 size parts i (omega arith) (omega (arith, below)) in
    let halves = and_parts (are_so value (bits_agree size e f i)) (are_so value (bit_decides size e f i)) (sym (list_all-append test (bits_agree size e f i) (bit_decides size e f i)) ∙ here) in
    at_bit value size e f i halves.0 halves.1)

-- ---- from clocks to the clauses

agree_so : (value : Meaning → Bool) (e f i : ℕ) (b : Bool) → ((b && value (same_bits e f (suc i))) ≡ true → value (clock_bit e i) ≡ value (clock_bit f i)) → are_so value (if b then (not_so (clock_bit e i) ∷ so (clock_bit f i) ∷ not_so (same_bits e f (suc i)) ∷ []) ∷ (so (clock_bit e i) ∷ not_so (clock_bit f i) ∷ not_so (same_bits e f (suc i)) ∷ []) ∷ [] else []) ≡ true
agree_so value e f i true h = agree_true (value (clock_bit e i)) (value (clock_bit f i)) (value (same_bits e f (suc i))) h
agree_so value e f i false h = refl

bit_so : (value : Meaning → Bool) (size e f i : ℕ) → i < size → AtBit (same_first value size e f i) (same_first value size e f (suc i)) (value (clock_bit e i)) (value (clock_bit f i)) (value (before e f)) → are_so value (bits_agree size e f i ++ bit_decides size e f i) ≡ true
bit_so value size e f i below at =
    let o = elsewhere value size e f i in
    all_append (list_any (says value)) (bits_agree size e f i) (bit_decides size e f i) (agree_so value e f i (nat_lt (suc i) size) at.agree)
    (decide_true (value (clock_bit e i)) (value (clock_bit f i)) (value (before e f)) o
    (λ none. let both = elsewhere_then value size e f i below none in at.first both.0 both.1)
    (λ none. let both = elsewhere_then value size e f i below none in at.second both.0 both.1))

pub pair_so : (value : Meaning → Bool) (size e f : ℕ) → ((i : ℕ) → i < size → AtBit (same_first value size e f i) (same_first value size e f (suc i)) (value (clock_bit e i)) (value (clock_bit f i)) (value (before e f))) → are_so value (pair_clauses size (e, f)) ≡ true
pair_so value size e f at =
    all_flat_map (list_any (says value)) (λ i. bits_agree size e f i ++ bit_decides size e f i) (range_with_len 0 size)
    (each_range (λ i. are_so value (bits_agree size e f i ++ bit_decides size e f i) ≡ true) 0 size (λ i _ below.
    let inside : i < size = omega (arith, below) in bit_so value size e f i inside (at i inside)))

-- where the variables say how clocks begin that differ, they say so bit by bit
pub same_first_is : (value : Meaning → Bool) (size e f : ℕ) (a b : ℕ → Bool) → ((n : ℕ) → 0 < n → n < size → value (same_bits e f n) ≡ (first_bits a n == first_bits b n)) → (first_bits a size == first_bits b size) ≡ false → (i : ℕ) → i ≤ size → same_first value size e f i ≡ (first_bits a i == first_bits b i)
same_first_is value size e f a b told differ zero most = refl
same_first_is value size e f a b told differ (suc i) most =
    elim (cases_eq (suc i) size) [
      | inl last ↦
          subst (λ (z : ℕ). (nat_lt (suc i) z && value (same_bits e f (suc i))) ≡ (first_bits a (suc i) == first_bits b (suc i))) last
          (not_below_itself (suc i) (value (same_bits e f (suc i))) ∙ sym (subst (λ (z : ℕ). (first_bits a z == first_bits b z) ≡ false) (sym last) differ))
      | inr other ↦
          let inside : suc i < size = omega (arith, most, other) in
          ap (λ z. z && value (same_bits e f (suc i))) (below_test (suc i) size inside) ∙ told (suc i) (omega arith) inside
    ]

pub pair_so_by : (value : Meaning → Bool) (size e f : ℕ) (a b : ℕ → Bool) → ((i : ℕ) → i < size → value (clock_bit e i) ≡ a i) → ((i : ℕ) → i < size → value (clock_bit f i) ≡ b i) → ((n : ℕ) → 0 < n → n < size → value (same_bits e f n) ≡ (first_bits a n == first_bits b n)) → value (before e f) ≡ nat_lt (first_bits a size) (first_bits b size) → (first_bits a size == first_bits b size) ≡ false → are_so value (pair_clauses size (e, f)) ≡ true
pair_so_by value size e f a b first second told order differ =
    pair_so value size e f (λ i below.
    let s = same_first_is value size e f a b told differ i (omega (arith, below)) in
    let t = same_first_is value size e f a b told differ (suc i) (omega (arith, below)) in
    let at = at_each_bit a b size i below in
    record {
      agree = λ u. first i below ∙ at.agree (sym t ∙ u) ∙ sym (second i below);
      first = λ u v. first i below ∙ at.first (sym s ∙ u) (sym t ∙ v) ∙ ap not (sym order);
      second = λ u v. second i below ∙ at.second (sym s ∙ u) (sym t ∙ v) ∙ sym order;
    })
