-- The places of meanings among those of a program.
use Rattle.std.proofs.Common.{◌≡◌, ◌⊎◌, inl, inr, ℕ, suc, ◌+◌, ◌-◌, ◌*◌, ◌<◌, ◌≤◌, Bool, true, false, cond, not, ◌&&◌, ◌||◌, ◌==◌, List, [], ◌∷◌, ◌++◌, map, length, refl, sym, ap, ◌∙◌, subst, arith}
use Rattle.std.specs.List.{flat_map, range_with_len, list_any, position_or_len}
use Rattle.std.proofs.Math.Nat.{suc-mul}
use Rattle.std.proofs.lemmas.List.{length-append, length-map}
use Rattle.std.proofs.lemmas.List.Folds.{list_any-append}
use Rattle.std.proofs.lemmas.List.FromFn.{length-map-range_with_len}
use Rattle.callorder.specs.Programs.{MpiProgram}
use Rattle.formula.specs.declared.facts.Fact.{Fact}
use Rattle.formula.specs.declared.facts.Meaning.{Meaning}
use Rattle.formula.specs.declared.facts.Meaning.TheVariants.{OfFact as fact, ClockBit as clock_bit, Before as before, SameBits as same_bits}
use Rattle.formula.specs.Families.{events}
use Rattle.formula.specs.Orders.{clock_size, clock_meanings, pair_meanings, order_meanings, used_pairs, place_of_pair}
use Rattle.formula.specs.Numbering.{facts, meanings, is_same_fact, is_same_meaning}
use Rattle.formula.proofs.Elements.{Each, each_mono, each_range, each_from, any_map, any_flat_map, position_within}
use Rattle.formula.proofs.Numbers.{numbers_of_order, size_positive, clocks_length, any_none, position_in, before_lacks, same_lacks, position_map}
use Rattle.formula.proofs.Used.{is_pair, each_used}
use Rattle.formula.proofs.Comparisons.{neither}
use Rattle.formula_tables.proofs.Apart.{not_both, unequal}

-- ---- lists

pub position_none : {X : Type 0} (test : X → Bool) (xs : List X) → list_any test xs ≡ false → position_or_len test xs ≡ length xs
position_none test [] h = refl
position_none test (x ∷ xs) h = none_step test x xs (test x) h (position_none test xs)
  where
    none_step : {X : Type 0} (test : X → Bool) (x : X) (xs : List X) (b : Bool) → (b || list_any test xs) ≡ false → (list_any test xs ≡ false → position_or_len test xs ≡ length xs) → cond (not b) (1 + position_or_len test xs) 0 ≡ suc (length xs)
    none_step test x xs true h rest = absurd cc
    none_step test x xs false h rest = omega (arith, rest h)

pub position_most : {X : Type 0} (test : X → Bool) (xs : List X) → position_or_len test xs ≤ length xs
position_most test [] = omega arith
position_most test (x ∷ xs) = most_step test x xs (test x) (position_most test xs)
  where
    most_step : {X : Type 0} (test : X → Bool) (x : X) (xs : List X) (b : Bool) → position_or_len test xs ≤ length xs → cond (not b) (1 + position_or_len test xs) 0 ≤ suc (length xs)
    most_step test x xs true h = omega (arith, h)
    most_step test x xs false h = omega (arith, h)

any_both : {X : Type 0} (test : X → Bool) (xs ys : List X) → list_any test xs ≡ false → list_any test ys ≡ false → list_any test (xs ++ ys) ≡ false
any_both test xs ys h k = list_any-append test xs ys ∙ neither (list_any test xs) (list_any test ys) h k

none_each : {X : Type 0} (test : X → Bool) (xs : List X) → Each (λ x. test x ≡ false) xs → list_any test xs ≡ false
none_each test [] h = refl
none_each test (x ∷ xs) h = neither (test x) (list_any test xs) h.0 (none_each test xs h.1)

each_none : {X : Type 0} (test : X → Bool) (xs : List X) → list_any test xs ≡ false → Each (λ x. test x ≡ false) xs
each_none test [] h = tt
each_none test (x ∷ xs) h = none_parts test x xs (test x) refl h (each_none test xs)
  where
    none_parts : {X : Type 0} (test : X → Bool) (x : X) (xs : List X) (b : Bool) → test x ≡ b → (b || list_any test xs) ≡ false → (list_any test xs ≡ false → Each (λ y. test y ≡ false) xs) → (test x ≡ false) × Each (λ y. test y ≡ false) xs
    none_parts test x xs true e h rest = absurd cc
    none_parts test x xs false e h rest = (e, rest h)

-- blocks of one length
pub blocks_length : {X Y : Type 0} (f : X → List Y) (w : ℕ) (xs : List X) → Each (λ x. length (f x) ≡ w) xs → length (flat_map f xs) ≡ length xs * w
blocks_length f w [] h = let e : 0 * w ≡ 0 = omega arith in sym e
blocks_length f w (x ∷ xs) h =
    let rest = blocks_length f w xs h.1 in
    let both = length-append (f x) (flat_map f xs) in
    let product : suc (length xs) * w ≡ length xs * w + w = suc-mul (length xs) w in
    omega (arith, rest, both, product, h.0)

-- ---- how many meanings there are

pairs_length : (p : MpiProgram) → length (flat_map (pair_meanings (clock_size p)) (used_pairs p)) ≡ length (used_pairs p) * clock_size p
pairs_length p =
    let size = clock_size p in
    blocks_length (pair_meanings size) size (used_pairs p)
    (each_used p (λ q. length (pair_meanings size q) ≡ size) (λ e f _ _ used.
    (let rest = length-map-range_with_len (same_bits e f) 1 (size - 1) in omega (arith, rest, size_positive p e f used))))

pub meanings_count : (p : MpiProgram) → length (meanings p) ≡ length (facts p) + length (events p) * clock_size p + length (used_pairs p) * clock_size p
meanings_count p =
    let clocks = clock_meanings (clock_size p) (length (events p)) in
    let pairs = flat_map (pair_meanings (clock_size p)) (used_pairs p) in
    let first : length (map fact (facts p)) ≡ length (facts p) = length-map (facts p) fact in
    let outer = length-append (map fact (facts p)) (clocks ++ pairs) in
    let inner = length-append clocks pairs in
    omega (arith, outer, inner, first, clocks_length p, pairs_length p)

-- ---- facts

none_of_order : (p : MpiProgram) (a : Fact) → list_any (is_same_meaning (fact a)) (order_meanings p) ≡ false
none_of_order p a =
    let test = is_same_meaning (fact a) in
    let size = clock_size p in
    let most = length (events p) in
    any_both test (clock_meanings size most) (flat_map (pair_meanings size) (used_pairs p))
    (any_flat_map test (λ d. map (clock_bit d) (range_with_len 0 size)) (range_with_len 0 most) ∙ any_none (λ d. list_any test (map (clock_bit d) (range_with_len 0 size))) (λ d. any_map test (clock_bit d) (range_with_len 0 size) ∙ any_none (λ j. false) (λ j. refl) (range_with_len 0 size)) (range_with_len 0 most))
    (any_flat_map test (pair_meanings size) (used_pairs p) ∙ any_none (λ q. list_any test (pair_meanings size q)) (λ q. any_map test (same_bits q.0 q.1) (range_with_len 1 (size - 1)) ∙ any_none (λ j. false) (λ j. refl) (range_with_len 1 (size - 1))) (used_pairs p))

fact_position : (a : Fact) (xs : List Fact) → position_or_len (is_same_meaning (fact a)) (map fact xs) ≡ position_or_len (is_same_fact a) xs
fact_position a xs = position_map (is_same_meaning (fact a)) fact xs

any_or_none : (b : Bool) → (b ≡ true) ⊎ (b ≡ false)
any_or_none true = inl refl
any_or_none false = inr refl

pub fact_there : (p : MpiProgram) (a : Fact) → position_or_len (is_same_fact a) (facts p) < length (facts p) → position_or_len (is_same_fact a) (facts p) ≡ position_or_len (is_same_meaning (fact a)) (meanings p)
fact_there p a below =
    let test = is_same_meaning (fact a) in
    elim (any_or_none (list_any (is_same_fact a) (facts p))) [
      | inl some ↦
          sym (position_in test (map fact (facts p)) (order_meanings p) (any_map test fact (facts p) ∙ some) ∙ fact_position a (facts p))
      | inr none ↦ absurd (omega (arith, below, position_none (is_same_fact a) (facts p) none))
    ]

pub fact_absent : (p : MpiProgram) (a : Fact) → length (facts p) ≤ position_or_len (is_same_fact a) (facts p) → length (meanings p) ≡ position_or_len (is_same_meaning (fact a)) (meanings p)
fact_absent p a past =
    let test = is_same_meaning (fact a) in
    elim (any_or_none (list_any (is_same_fact a) (facts p))) [
      | inl some ↦ absurd (omega (arith, past, position_within (is_same_fact a) (facts p) some))
      | inr none ↦
          sym (position_none test (meanings p) (any_both test (map fact (facts p)) (order_meanings p) (any_map test fact (facts p) ∙ none) (none_of_order p a)))
    ]

-- ---- the bits of clocks

no_fact : (p : MpiProgram) (m : Meaning) → ((a : Fact) → is_same_meaning m (fact a) ≡ false) → list_any (is_same_meaning m) (map fact (facts p)) ≡ false
no_fact p m h =
    any_map (is_same_meaning m) fact (facts p) ∙ any_none (λ a. is_same_meaning m (fact a)) h (facts p)

pub bit_there : (p : MpiProgram) (e i before_it size : ℕ) → e < length (events p) → i < clock_size p → before_it ≡ length (facts p) → size ≡ clock_size p → before_it + e * size + i ≡ position_or_len (is_same_meaning (clock_bit e i)) (meanings p)
bit_there p e i before_it size event below facts_are size_is =
    let law = (numbers_of_order p).0 e i event below in
    let product : e * size ≡ e * clock_size p = ap (λ (z : ℕ). e * z) size_is in
    omega (arith, law, product, facts_are)

pub bit_absent : (p : MpiProgram) (e i : ℕ) → (e < length (events p) → i < clock_size p → ⊥) → length (meanings p) ≡ position_or_len (is_same_meaning (clock_bit e i)) (meanings p)
bit_absent p e i out =
    let test = is_same_meaning (clock_bit e i) in
    let size = clock_size p in
    let most = length (events p) in
    sym (position_none test (meanings p) (any_both test (map fact (facts p)) (order_meanings p) (no_fact p (clock_bit e i) (λ a. refl))
    (any_both test (clock_meanings size most) (flat_map (pair_meanings size) (used_pairs p))
    (any_flat_map test (λ d. map (clock_bit d) (range_with_len 0 size)) (range_with_len 0 most) ∙
    none_each (λ d. list_any test (map (clock_bit d) (range_with_len 0 size))) (range_with_len 0 most)
    (each_range (λ d. list_any test (map (clock_bit d) (range_with_len 0 size)) ≡ false) 0 most (λ d _ below_d.
    any_map test (clock_bit d) (range_with_len 0 size) ∙ none_each (λ j. e == d && i == j) (range_with_len 0 size)
    (each_range (λ j. (e == d && i == j) ≡ false) 0 size (λ j _ below_j. not_both e i d j (λ x y. out (omega (arith, x, below_d)) (omega (arith, y, below_j))))))))
    (any_flat_map test (pair_meanings size) (used_pairs p) ∙ any_none (λ q. list_any test (pair_meanings size q)) (λ q. any_map test (same_bits q.0 q.1) (range_with_len 1 (size - 1)) ∙ any_none (λ j. false) (λ j. refl) (range_with_len 1 (size - 1))) (used_pairs p)))))

-- ---- used pairs

no_bits : (p : MpiProgram) (m : Meaning) → ((d j : ℕ) → is_same_meaning m (clock_bit d j) ≡ false) → list_any (is_same_meaning m) (clock_meanings (clock_size p) (length (events p))) ≡ false
no_bits p m h =
    let test = is_same_meaning m in
    let size = clock_size p in
    let most = length (events p) in
    any_flat_map test (λ d. map (clock_bit d) (range_with_len 0 size)) (range_with_len 0 most) ∙ any_none (λ d. list_any test (map (clock_bit d) (range_with_len 0 size))) (λ d. any_map test (clock_bit d) (range_with_len 0 size) ∙ any_none (λ j. test (clock_bit d j)) (h d) (range_with_len 0 size)) (range_with_len 0 most)

absent : (p : MpiProgram) (m : Meaning) → ((a : Fact) → is_same_meaning m (fact a) ≡ false) → ((d j : ℕ) → is_same_meaning m (clock_bit d j) ≡ false) → Each (λ q. list_any (is_same_meaning m) (pair_meanings (clock_size p) q) ≡ false) (used_pairs p) → length (meanings p) ≡ position_or_len (is_same_meaning m) (meanings p)
absent p m facts_differ bits_differ pairs_differ =
    let test = is_same_meaning m in
    let size = clock_size p in
    sym (position_none test (meanings p) (any_both test (map fact (facts p)) (order_meanings p) (no_fact p m facts_differ)
    (any_both test (clock_meanings size (length (events p))) (flat_map (pair_meanings size) (used_pairs p)) (no_bits p m bits_differ)
    (any_flat_map test (pair_meanings size) (used_pairs p) ∙ none_each (λ q. list_any test (pair_meanings size q)) (used_pairs p) pairs_differ))))

unused : (p : MpiProgram) (e f : ℕ) → length (used_pairs p) ≤ place_of_pair p e f → list_any (is_pair e f) (used_pairs p) ≡ false
unused p e f past =
    elim (any_or_none (list_any (is_pair e f) (used_pairs p))) [
      | inl some ↦ absurd (omega (arith, past, position_within (is_pair e f) (used_pairs p) some))
      | inr none ↦ none
    ]

pub order_there : (p : MpiProgram) (e f place before_it most size : ℕ) → place ≡ place_of_pair p e f → place < length (used_pairs p) → before_it ≡ length (facts p) → most ≡ length (events p) → size ≡ clock_size p → before_it + most * size + place * size ≡ position_or_len (is_same_meaning (before e f)) (meanings p)
order_there p e f place before_it most size place_is below facts_are most_is size_is =
    let law = (numbers_of_order p).1 e f (subst (λ (z : ℕ). z < length (used_pairs p)) place_is below) in
    let first : most * size ≡ length (events p) * clock_size p = ap (λ (z : ℕ). z * size) most_is ∙ ap (λ (z : ℕ). length (events p) * z) size_is in
    let second : place * size ≡ place_of_pair p e f * clock_size p = ap (λ (z : ℕ). z * size) place_is ∙ ap (λ (z : ℕ). place_of_pair p e f * z) size_is in
    omega (arith, law, first, second, facts_are)

pub order_absent : (p : MpiProgram) (e f : ℕ) → length (used_pairs p) ≤ place_of_pair p e f → length (meanings p) ≡ position_or_len (is_same_meaning (before e f)) (meanings p)
order_absent p e f past =
    absent p (before e f) (λ a. refl) (λ d j. refl)
    (each_mono (λ q. is_pair e f q ≡ false) (λ q. list_any (is_same_meaning (before e f)) (pair_meanings (clock_size p) q) ≡ false) (λ q h. before_lacks e f (clock_size p) q h) (used_pairs p)
    (each_none (is_pair e f) (used_pairs p) (unused p e f past)))

pub same_there : (p : MpiProgram) (e f i place before_it most size : ℕ) → place ≡ place_of_pair p e f → place < length (used_pairs p) → 0 < i → i < size → before_it ≡ length (facts p) → most ≡ length (events p) → size ≡ clock_size p → before_it + most * size + place * size + i ≡ position_or_len (is_same_meaning (same_bits e f i)) (meanings p)
same_there p e f i place before_it most size place_is below positive inside facts_are most_is size_is =
    let law = (numbers_of_order p).2 e f i (subst (λ (z : ℕ). z < length (used_pairs p)) place_is below) positive (subst (λ (z : ℕ). i < z) size_is inside) in
    let first : most * size ≡ length (events p) * clock_size p = ap (λ (z : ℕ). z * size) most_is ∙ ap (λ (z : ℕ). length (events p) * z) size_is in
    let second : place * size ≡ place_of_pair p e f * clock_size p = ap (λ (z : ℕ). z * size) place_is ∙ ap (λ (z : ℕ). place_of_pair p e f * z) size_is in
    omega (arith, law, first, second, facts_are)

three_false : (b c d : Bool) → d ≡ false → (b && c && d) ≡ false
three_false true true d h = h
three_false true false d h = refl
three_false false c d h = refl

-- of a pair no number of bits out of range is named
bits_out : (e f i size : ℕ) (q : ℕ × ℕ) → (0 < i → i < size → ⊥) → list_any (is_same_meaning (same_bits e f i)) (pair_meanings size q) ≡ false
bits_out e f i size q out =
    any_map (is_same_meaning (same_bits e f i)) (same_bits q.0 q.1) (range_with_len 1 (size - 1)) ∙
    none_each (λ j. e == q.0 && f == q.1 && i == j) (range_with_len 1 (size - 1))
    (each_range (λ j. (e == q.0 && f == q.1 && i == j) ≡ false) 1 (size - 1) (λ j above below. three_false (e == q.0) (f == q.1) (i == j) (unequal i j (λ same. out (omega (arith, same, above)) (omega (arith, same, above, below))))))

pub same_unused : (p : MpiProgram) (e f i : ℕ) → length (used_pairs p) ≤ place_of_pair p e f → length (meanings p) ≡ position_or_len (is_same_meaning (same_bits e f i)) (meanings p)
same_unused p e f i past =
    absent p (same_bits e f i) (λ a. refl) (λ d j. refl)
    (each_mono (λ q. is_pair e f q ≡ false) (λ q. list_any (is_same_meaning (same_bits e f i)) (pair_meanings (clock_size p) q) ≡ false) (λ q h. same_lacks e f i (clock_size p) q h) (used_pairs p)
    (each_none (is_pair e f) (used_pairs p) (unused p e f past)))

pub same_out : (p : MpiProgram) (e f i : ℕ) → (0 < i → i < clock_size p → ⊥) → length (meanings p) ≡ position_or_len (is_same_meaning (same_bits e f i)) (meanings p)
same_out p e f i out =
    absent p (same_bits e f i) (λ a. refl) (λ d j. refl)
    (each_from (λ q. list_any (is_same_meaning (same_bits e f i)) (pair_meanings (clock_size p) q) ≡ false) (λ q. bits_out e f i (clock_size p) q out) (used_pairs p))
