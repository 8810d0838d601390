-- The numbers of the variables on the order of events.
use Rattle.std.proofs.Common.{◌≡◌, ℕ, zero, suc, ◌+◌, ◌-◌, ◌*◌, ◌<◌, ◌≤◌, Bool, true, false, cond, not, ◌&&◌, ◌||◌, ◌==◌, List, [], ◌∷◌, ◌++◌, map, length, get_or, refl, sym, ap, ◌∙◌, subst, arith}
use Rattle.std.specs.List.{flat_map, range_with_len, list_any, position_or_len}
use Rattle.std.proofs.Math.Nat.{suc-mul}
use Rattle.std.proofs.lemmas.Bool.Decides.{nat_tests}
use Rattle.std.proofs.lemmas.List.{length-append, length-map}
use Rattle.std.proofs.lemmas.List.FromFn.{get_or-range_with_len, length-range_with_len, length-map-range_with_len}
use Rattle.std.proofs.lemmas.List.Sums.{position_or_len_is, passes_at_first}
use Rattle.callorder.specs.Programs.{MpiProgram}
use Rattle.formula.specs.Facts.{Fact, Meaning, fact, clock_bit, before, same_bits}
use Rattle.formula.specs.Families.{events}
use Rattle.formula.specs.Orders.{clock_size, clock_meanings, pair_meanings, order_meanings, used_pairs, place_of_pair}
use Rattle.formula.specs.Numbering.{facts, is_same_meaning, variable_of}
use Rattle.formula.specs.Laws.{NumbersOfOrder}
use Rattle.formula.proofs.Elements.{and_both, or_left, any_map, any_flat_map, any_range, any_at, any_mono, each_at_test, position_within}
use Rattle.formula.proofs.Named.{equal_self}
use Rattle.formula.proofs.Bits.{bits_for_two}
use Rattle.formula.proofs.Used.{is_pair, each_used}

-- ---- first places in lists that are put together

past_step : {X : Type 0} (test : X → Bool) (xs ys : List X) (b : Bool) → (b || list_any test xs) ≡ false → (list_any test xs ≡ false → position_or_len test (xs ++ ys) ≡ length xs + position_or_len test ys) → cond (not b) (1 + position_or_len test (xs ++ ys)) 0 ≡ suc (length xs) + position_or_len test ys
past_step test xs ys true h rest = absurd cc
past_step test xs ys false h rest = omega (arith, rest h)

pub position_past : {X : Type 0} (test : X → Bool) (xs ys : List X) → list_any test xs ≡ false → position_or_len test (xs ++ ys) ≡ length xs + position_or_len test ys
position_past test [] ys h = omega arith
position_past test (x ∷ xs) ys h = past_step test xs ys (test x) h (position_past test xs ys)

in_step : {X : Type 0} (test : X → Bool) (xs ys : List X) (b : Bool) → (b || list_any test xs) ≡ true → (list_any test xs ≡ true → position_or_len test (xs ++ ys) ≡ position_or_len test xs) → cond (not b) (1 + position_or_len test (xs ++ ys)) 0 ≡ cond (not b) (1 + position_or_len test xs) 0
in_step test xs ys true h rest = refl
in_step test xs ys false h rest = ap (λ (z : ℕ). 1 + z) (rest h)

pub position_in : {X : Type 0} (test : X → Bool) (xs ys : List X) → list_any test xs ≡ true → position_or_len test (xs ++ ys) ≡ position_or_len test xs
position_in test [] ys h = absurd cc
position_in test (x ∷ xs) ys h = in_step test xs ys (test x) h (position_in test xs ys)

pub position_map : {X Y : Type 0} (test : Y → Bool) (f : X → Y) (xs : List X) → position_or_len test (map f xs) ≡ position_or_len (λ x. test (f x)) xs
position_map test f [] = refl
position_map test f (x ∷ xs) = ap (λ (z : ℕ). cond (not (test (f x))) (1 + z) 0) (position_map test f xs)

-- in a list of blocks of one length, the place is the one in the first block that has it, behind
-- the blocks before
block_step : {X Y : Type 0} (f : X → List Y) (pick : X → Bool) (test : Y → Bool) (w : ℕ) (d x : X) (xs : List X) (b : Bool) → (b ≡ false → list_any test (f x) ≡ false) → (b ≡ true → list_any test (f x) ≡ true) → length (f x) ≡ w → (b || list_any pick xs) ≡ true → (list_any pick xs ≡ true → position_or_len test (flat_map f xs) ≡ position_or_len pick xs * w + position_or_len test (f (get_or xs (position_or_len pick xs) d))) → position_or_len test (f x ++ flat_map f xs) ≡ cond (not b) (1 + position_or_len pick xs) 0 * w + position_or_len test (f (get_or (x ∷ xs) (cond (not b) (1 + position_or_len pick xs) 0) d))
block_step f pick test w d x xs true none some size h rest =
    let here = position_in test (f x) (flat_map f xs) (some refl) in omega (arith, here)
block_step f pick test w d x xs false none some size h rest =
    let place = position_or_len pick xs in
    let past = position_past test (f x) (flat_map f xs) (none refl) in
    let more = rest h in
    let e : 1 + place ≡ suc place = omega arith in
    let product : suc place * w ≡ place * w + w = suc-mul place w in
    subst (λ (z : ℕ). position_or_len test (f x ++ flat_map f xs) ≡ z * w + position_or_len test (f (get_or (x ∷ xs) z d))) (sym e)
    (omega (arith, past, more, product, size))

position_blocks : {X Y : Type 0} (f : X → List Y) (pick : X → Bool) (test : Y → Bool) (w : ℕ) (d : X) → ((x : X) → pick x ≡ false → list_any test (f x) ≡ false) → ((x : X) → pick x ≡ true → list_any test (f x) ≡ true) → ((x : X) → length (f x) ≡ w) → (xs : List X) → list_any pick xs ≡ true → position_or_len test (flat_map f xs) ≡ position_or_len pick xs * w + position_or_len test (f (get_or xs (position_or_len pick xs) d))
position_blocks f pick test w d none some size [] h = absurd cc
position_blocks f pick test w d none some size (x ∷ xs) h =
    block_step f pick test w d x xs (pick x) (none x) (some x) (size x) h (position_blocks f pick test w d none some size xs)

pub any_none : {X : Type 0} (test : X → Bool) → ((x : X) → test x ≡ false) → (xs : List X) → list_any test xs ≡ false
any_none test h [] = refl
any_none test h (x ∷ xs) = neither (test x) (list_any test xs) (h x) (any_none test h xs)
  where
    neither : (b c : Bool) → b ≡ false → c ≡ false → (b || c) ≡ false
    neither false c e f = f
    neither true c e f = absurd cc

unequal : (a b : ℕ) → a < b → (b == a) ≡ false
unequal a b h = grind (arith, nat_tests)

position_range : (i low n : ℕ) → low ≤ i → i < low + n → position_or_len (λ j. i == j) (range_with_len low n) ≡ i - low
position_range i low n above below =
    let size = length-range_with_len low n in
    let last : low + (i - low) ≡ i = omega (arith, above) in
    position_or_len_is (λ j. i == j) (range_with_len low n) (i - low) 0 (omega (arith, size, above, below))
    (λ k first. subst (λ (z : ℕ). (i == z) ≡ false) (sym (get_or-range_with_len low n k 0 (omega (arith, first, below)))) (unequal (low + k) i (omega (arith, first))))
    (λ _. subst (λ (z : ℕ). (i == z) ≡ true) (sym (get_or-range_with_len low n (i - low) 0 (omega (arith, above, below)) ∙ last)) (equal_self i))

and_false : (b c : Bool) → b ≡ false → (b && c) ≡ false
and_false false c e = refl
and_false true c e = absurd cc

-- a test that asks for more, which is so
position_with : (b : Bool) (test : ℕ → Bool) (xs : List ℕ) → b ≡ true → position_or_len (λ j. b && test j) xs ≡ position_or_len test xs
position_with true test xs e = refl
position_with false test xs e = absurd cc

-- ---- the three kinds of variables

behind_facts : (p : MpiProgram) (m : Meaning) → ((a : Fact) → is_same_meaning m (fact a) ≡ false) → variable_of p m ≡ length (facts p) + position_or_len (is_same_meaning m) (order_meanings p) + 1
behind_facts p m h =
    let past = position_past (is_same_meaning m) (map fact (facts p)) (order_meanings p) (any_map (is_same_meaning m) fact (facts p) ∙ any_none (λ a. is_same_meaning m (fact a)) h (facts p)) in
    let size = length-map (facts p) fact in
    omega (arith, past, size)

clock_number : (p : MpiProgram) (e i : ℕ) → e < length (events p) → i < clock_size p → variable_of p (clock_bit e i) ≡ length (facts p) + (e * clock_size p + i) + 1
clock_number p e i event below =
    let test : Meaning → Bool = is_same_meaning (clock_bit e i) in
    let size = clock_size p in
    let most = length (events p) in
    let f : ℕ → List Meaning = λ d. map (clock_bit d) (range_with_len 0 size) in
    let pick : ℕ → Bool = λ d. e == d in
    let has : (d : ℕ) → pick d ≡ true → list_any test (f d) ≡ true =
    λ d is. any_map test (clock_bit d) (range_with_len 0 size) ∙
    any_range (λ j. e == d && i == j) 0 size i (omega arith) (omega (arith, below)) (and_both (e == d) (i == i) is (equal_self i)) in
    let lacks : (d : ℕ) → pick d ≡ false → list_any test (f d) ≡ false =
    λ d is. any_map test (clock_bit d) (range_with_len 0 size) ∙ any_none (λ j. e == d && i == j) (λ j. and_false (e == d) (i == j) is) (range_with_len 0 size) in
    let found : list_any pick (range_with_len 0 most) ≡ true = any_range pick 0 most e (omega arith) (omega (arith, event)) (equal_self e) in
    let inside : list_any test (clock_meanings size most) ≡ true = any_at_block f pick test has (range_with_len 0 most) found in
    let blocks = position_blocks f pick test size 0 lacks has (λ d. length-map-range_with_len (clock_bit d) 0 size) (range_with_len 0 most) found in
    let place : position_or_len pick (range_with_len 0 most) ≡ e - 0 = position_range e 0 most (omega arith) (omega (arith, event)) in
    let there : position_or_len pick (range_with_len 0 most) ≡ e = omega (arith, place) in
    let at : get_or (range_with_len 0 most) e 0 ≡ 0 + e = get_or-range_with_len 0 most e 0 event in
    let itself : get_or (range_with_len 0 most) e 0 ≡ e = omega (arith, at) in
    let own : position_or_len test (f e) ≡ i - 0 =
    position_map test (clock_bit e) (range_with_len 0 size) ∙ position_with (e == e) (λ j. i == j) (range_with_len 0 size) (equal_self e) ∙ position_range i 0 size (omega arith) (omega (arith, below)) in
    let whole : position_or_len test (clock_meanings size most) ≡ e * size + position_or_len test (f e) =
    blocks ∙ ap (λ (z : ℕ). z * size + position_or_len test (f (get_or (range_with_len 0 most) z 0))) there ∙ ap (λ (z : ℕ). e * size + position_or_len test (f z)) itself in
    let front = position_in test (clock_meanings size most) (flat_map (pair_meanings size) (used_pairs p)) inside in
    let start = behind_facts p (clock_bit e i) (λ a. refl) in
    omega (arith, start, front, whole, own)
  where
    any_at_block : (f : ℕ → List Meaning) (pick : ℕ → Bool) (test : Meaning → Bool) → ((d : ℕ) → pick d ≡ true → list_any test (f d) ≡ true) → (xs : List ℕ) → list_any pick xs ≡ true → list_any test (flat_map f xs) ≡ true
    any_at_block f pick test has xs h = any_flat_map test f xs ∙ any_mono (λ d. list_any test (f d)) pick has xs h

pub clocks_length : (p : MpiProgram) → length (clock_meanings (clock_size p) (length (events p))) ≡ length (events p) * clock_size p
clocks_length p = clock_count (clock_size p) 0 (length (events p))
  where
    clock_count : (size low n : ℕ) → length (flat_map (λ d. map (clock_bit d) (range_with_len 0 size)) (range_with_len low n)) ≡ n * size
    clock_count size low zero = let e : 0 * size ≡ 0 = omega arith in sym e
    clock_count size low (suc n) =
        let rest = clock_count size (low + 1) n in
        let first = length-map-range_with_len (clock_bit low) 0 size in
        let both = length-append (map (clock_bit low) (range_with_len 0 size)) (flat_map (λ d. map (clock_bit d) (range_with_len 0 size)) (range_with_len (low + 1) n)) in
        let product : suc n * size ≡ n * size + size = suc-mul n size in
        omega (arith, rest, first, both, product)

-- the variables of a pair, behind the facts and the clocks
pair_number : (p : MpiProgram) (e f : ℕ) (m : Meaning) (own : ℕ) → 0 < clock_size p → ((a : Fact) → is_same_meaning m (fact a) ≡ false) → ((d j : ℕ) → is_same_meaning m (clock_bit d j) ≡ false) → ((q : ℕ × ℕ) → is_pair e f q ≡ false → list_any (is_same_meaning m) (pair_meanings (clock_size p) q) ≡ false) → ((q : ℕ × ℕ) → is_pair e f q ≡ true → list_any (is_same_meaning m) (pair_meanings (clock_size p) q) ≡ true) → ((q : ℕ × ℕ) → is_pair e f q ≡ true → position_or_len (is_same_meaning m) (pair_meanings (clock_size p) q) ≡ own) → list_any (is_pair e f) (used_pairs p) ≡ true → variable_of p m ≡ length (facts p) + (length (events p) * clock_size p + (place_of_pair p e f * clock_size p + own)) + 1
pair_number p e f m own positive no_fact no_bit lacks has at used =
    let test : Meaning → Bool = is_same_meaning m in
    let size = clock_size p in
    let most = length (events p) in
    let width : (q : ℕ × ℕ) → length (pair_meanings size q) ≡ size =
    λ q. (let rest = length-map-range_with_len (same_bits q.0 q.1) 1 (size - 1) in omega (arith, rest, positive)) in
    let blocks = position_blocks (pair_meanings size) (is_pair e f) test size (0, 0) lacks has width (used_pairs p) used in
    let inside = position_within (is_pair e f) (used_pairs p) used in
    let there = at (get_or (used_pairs p) (place_of_pair p e f) (0, 0)) (passes_at_first (is_pair e f) (used_pairs p) (0, 0) inside) in
    let none : list_any test (clock_meanings size most) ≡ false =
    any_flat_map test (λ d. map (clock_bit d) (range_with_len 0 size)) (range_with_len 0 most) ∙
    any_none (λ d. list_any test (map (clock_bit d) (range_with_len 0 size))) (λ d.
    any_map test (clock_bit d) (range_with_len 0 size) ∙ any_none (λ j. test (clock_bit d j)) (no_bit d) (range_with_len 0 size)) (range_with_len 0 most) in
    let past = position_past test (clock_meanings size most) (flat_map (pair_meanings size) (used_pairs p)) none in
    let start = behind_facts p m no_fact in
    let clocks = clocks_length p in
    omega (arith, start, past, clocks, blocks, there)

-- ---- the law

place_used : (p : MpiProgram) (e f : ℕ) → place_of_pair p e f < length (used_pairs p) → list_any (is_pair e f) (used_pairs p) ≡ true
place_used p e f below = any_at (is_pair e f) (used_pairs p) (place_of_pair p e f) (0, 0) below (passes_at_first (is_pair e f) (used_pairs p) (0, 0) below)

before_at : (e f size : ℕ) (q : ℕ × ℕ) (b : Bool) → is_pair e f q ≡ b → b ≡ true → position_or_len (is_same_meaning (before e f)) (pair_meanings size q) ≡ 0
before_at e f size q true h is =
    ap (λ z. cond (not z) (1 + position_or_len (is_same_meaning (before e f)) (map (same_bits q.0 q.1) (range_with_len 1 (size - 1)))) 0) h
before_at e f size q false h is = absurd cc

pub before_lacks : (e f size : ℕ) (q : ℕ × ℕ) → is_pair e f q ≡ false → list_any (is_same_meaning (before e f)) (pair_meanings size q) ≡ false
before_lacks e f size q h =
    ap (λ z. z || list_any (is_same_meaning (before e f)) (map (same_bits q.0 q.1) (range_with_len 1 (size - 1)))) h ∙
    any_map (is_same_meaning (before e f)) (same_bits q.0 q.1) (range_with_len 1 (size - 1)) ∙
    any_none (λ j. is_same_meaning (before e f) (same_bits q.0 q.1 j)) (λ j. refl) (range_with_len 1 (size - 1))

regroup : (a b c : Bool) → (a && b && c) ≡ ((a && b) && c)
regroup true true c = refl
regroup true false c = refl
regroup false b c = refl

pub same_lacks : (e f i size : ℕ) (q : ℕ × ℕ) → is_pair e f q ≡ false → list_any (is_same_meaning (same_bits e f i)) (pair_meanings size q) ≡ false
same_lacks e f i size q h =
    any_map (is_same_meaning (same_bits e f i)) (same_bits q.0 q.1) (range_with_len 1 (size - 1)) ∙
    any_none (λ j. e == q.0 && f == q.1 && i == j) (λ j. regroup (e == q.0) (f == q.1) (i == j) ∙ and_false (is_pair e f q) (i == j) h) (range_with_len 1 (size - 1))

same_has : (e f i size : ℕ) → 0 < i → i < size → (q : ℕ × ℕ) → is_pair e f q ≡ true → list_any (is_same_meaning (same_bits e f i)) (pair_meanings size q) ≡ true
same_has e f i size positive below q h =
    any_map (is_same_meaning (same_bits e f i)) (same_bits q.0 q.1) (range_with_len 1 (size - 1)) ∙
    any_range (λ j. e == q.0 && f == q.1 && i == j) 1 (size - 1) i (omega (arith, positive)) (omega (arith, positive, below))
    (regroup (e == q.0) (f == q.1) (i == i) ∙ and_both (is_pair e f q) (i == i) h (equal_self i))

position_same : (s t : ℕ → Bool) → ((j : ℕ) → s j ≡ t j) → (xs : List ℕ) → position_or_len s xs ≡ position_or_len t xs
position_same s t h [] = refl
position_same s t h (x ∷ xs) =
    ap (λ z. cond (not z) (1 + position_or_len s xs) 0) (h x) ∙ ap (λ (z : ℕ). cond (not (t x)) (1 + z) 0) (position_same s t h xs)

same_at : (e f i size : ℕ) → 0 < i → i < size → (q : ℕ × ℕ) → is_pair e f q ≡ true → position_or_len (is_same_meaning (same_bits e f i)) (pair_meanings size q) ≡ i
same_at e f i size positive below q h =
    let own : position_or_len (is_same_meaning (same_bits e f i)) (map (same_bits q.0 q.1) (range_with_len 1 (size - 1))) ≡ i - 1 =
    position_map (is_same_meaning (same_bits e f i)) (same_bits q.0 q.1) (range_with_len 1 (size - 1)) ∙
    position_same (λ j. e == q.0 && f == q.1 && i == j) (λ j. is_pair e f q && i == j) (λ j. regroup (e == q.0) (f == q.1) (i == j)) (range_with_len 1 (size - 1)) ∙
    position_with (is_pair e f q) (λ j. i == j) (range_with_len 1 (size - 1)) h ∙
    position_range i 1 (size - 1) (omega (arith, positive)) (omega (arith, positive, below)) in
    omega (arith, own, positive)

pub size_positive : (p : MpiProgram) (e f : ℕ) → list_any (is_pair e f) (used_pairs p) ≡ true → 0 < clock_size p
size_positive p e f used =
    (each_at_test (λ q. 0 < clock_size p) (is_pair e f) (used_pairs p)
    (each_used p (λ q. 0 < clock_size p) (λ d g first below _. bits_for_two (length (events p)) (omega (arith, first, below)))) used).2

pub numbers_of_order : NumbersOfOrder
numbers_of_order p = (
  clock_number p,
  λ e f below.
      (let used = place_used p e f below in
      let positive = size_positive p e f used in
      let number = pair_number p e f (before e f) 0 positive (λ a. refl) (λ d j. refl) (before_lacks e f (clock_size p)) (λ q h. or_left (is_pair e f q) _ h) (λ q h. before_at e f (clock_size p) q (is_pair e f q) refl h) used in
      omega (arith, number)),
  λ e f i below positive inside.
      (let used = place_used p e f below in
      pair_number p e f (same_bits e f i) i (omega (arith, inside)) (λ a. refl) (λ d j. refl) (same_lacks e f i (clock_size p)) (same_has e f i (clock_size p) positive inside) (same_at e f i (clock_size p) positive inside) used),
)
