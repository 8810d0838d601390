-- Which meaning stands at a place.
use Rattle.std.proofs.Common.{◌≡◌, ℕ, zero, suc, ◌+◌, ◌-◌, ◌*◌, ◌<◌, ◌≤◌, List, [], ◌∷◌, ◌++◌, map, length, get_or, refl, sym, ap, ◌∙◌, arith}
use Rattle.std.specs.Prelude.{Option, Some, None, slice_get}
use Rattle.std.specs.List.{flat_map, range_with_len}
use Rattle.std.proofs.Math.Nat.{add-mul, mul-zero, suc-mul}
use Rattle.std.proofs.lemmas.Nat.{mul-add-lt}
use Rattle.std.proofs.lemmas.List.{length-append, length-map}
use Rattle.std.proofs.lemmas.List.FromFn.{get_or-range_with_len, get_or-map-range_with_len, length-range_with_len, length-map-range_with_len}
use Rattle.std.proofs.lemmas.Option.{slice_get-get_or, slice_get_past}
use Rattle.formula.specs.declared.facts.Fact.{Fact}
use Rattle.formula.specs.declared.facts.Meaning.{Meaning}
use Rattle.formula.specs.declared.facts.Meaning.TheVariants.{OfFact as fact, ClockBit as clock_bit, SameBits as same_bits}
use Rattle.callorder.specs.Programs.{MpiProgram}
use Rattle.formula.specs.Families.{events}
use Rattle.formula.specs.Orders.{clock_meanings, clock_size, pair_meanings, used_pairs}
use Rattle.formula.specs.Numbering.{facts as facts_of}
use Rattle.formula.proofs.Elements.{Each, each_from}
use Rattle.formula.proofs.Numbers.{size_positive}
use Rattle.formula.proofs.Used.{each_used}
use Rattle.formula_tables.specs.Meanings.{MeaningParts, meanings_by, meanings_in, meaning_of, of_pair, meaning_parts_of}
use Rattle.formula_tables.proofs.VariableNumbers.{blocks_length}

-- ---- lists

slice_get_front : {X : Type 0} (xs ys : List X) (k : ℕ) → k < length xs → slice_get (xs ++ ys) k ≡ slice_get xs k
slice_get_front [] ys k h = absurd (omega (arith, h))
slice_get_front (x ∷ xs) ys zero h = refl
slice_get_front (x ∷ xs) ys (suc k) h = slice_get_front xs ys k (omega (arith, h))

slice_get_behind : {X : Type 0} (xs ys : List X) (i k : ℕ) → i ≡ length xs + k → slice_get (xs ++ ys) i ≡ slice_get ys k
slice_get_behind [] ys i k e = let same : i ≡ k = omega (arith, e) in ap (slice_get ys) same
slice_get_behind (x ∷ xs) ys zero k e = absurd (omega (arith, e))
slice_get_behind (x ∷ xs) ys (suc i) k e = slice_get_behind xs ys i k (omega (arith, e))

-- the element at a place of a block, if there is such a block
abbrev pub at_block : {X Y : Type 0} → (X → List Y) → Option X → ℕ → Option Y
at_block f None j = None
at_block f (Some x) j = slice_get (f x) j

-- in a list of blocks of one length, the block and the place in it are found by division
slice_get_blocks : {X Y : Type 0} (f : X → List Y) (w : ℕ) (xs : List X) (b j k : ℕ) → ((x : X) → length (f x) ≡ w) → j < w → k ≡ b * w + j → slice_get (flat_map f xs) k ≡ at_block f (slice_get xs b) j
slice_get_blocks f w [] b j k size below e = refl
slice_get_blocks f w (x ∷ xs) zero j k size below e =
    let same : k ≡ j = omega (arith, e) in
    slice_get_front (f x) (flat_map f xs) k (omega (arith, same, below, size x)) ∙ ap (slice_get (f x)) same
slice_get_blocks f w (x ∷ xs) (suc b) j k size below e =
    let product : suc b * w ≡ b * w + w = suc-mul b w in
    slice_get_behind (f x) (flat_map f xs) k (b * w + j) (omega (arith, e, product, size x)) ∙
    slice_get_blocks f w xs b j (b * w + j) size below refl

range_at : (n i : ℕ) → i < n → slice_get (range_with_len 0 n) i ≡ Some i
range_at n i below =
    let there : get_or (range_with_len 0 n) i 0 ≡ i = omega (arith, get_or-range_with_len 0 n i 0 below) in
    slice_get-get_or (range_with_len 0 n) i 0 (omega (arith, below, length-range_with_len 0 n)) ∙ ap (λ (z : ℕ). Some z) there

map_range_at : {X : Type 0} (f : ℕ → X) (a n i j : ℕ) → i < n → a + i ≡ j → slice_get (map f (range_with_len a n)) i ≡ Some (f j)
map_range_at f a n i j below e =
    slice_get-get_or (map f (range_with_len a n)) i (f j) (omega (arith, below, length-map-range_with_len f a n)) ∙
    ap (λ x. Some x) (get_or-map-range_with_len f a n i j (f j) below e)

-- ---- the meanings on the order of events

clocks_length : (size most : ℕ) → length (clock_meanings size most) ≡ most * size
clocks_length size most =
    let events = range_with_len 0 most in
    let blocks = blocks_length (λ d. map (clock_bit d) (range_with_len 0 size)) size events (each_from (λ d. length (map (clock_bit d) (range_with_len 0 size)) ≡ size) (λ d. length-map-range_with_len (clock_bit d) 0 size) events) in
    blocks ∙ ap (λ (n : ℕ). n * size) (length-range_with_len 0 most)

pair_at : (size : ℕ) (q : ℕ × ℕ) (j : ℕ) → j < size → slice_get (pair_meanings size q) j ≡ Some (of_pair q j)
pair_at size q zero below = refl
pair_at size q (suc j) below = map_range_at (same_bits q.0 q.1) 1 (size - 1) j (suc j) (omega (arith, below)) (omega arith)

-- a bit of a clock
pub bit_at_place : (size most : ℕ) (used : List (ℕ × ℕ)) (place e i : ℕ) → e < most → i < size → place ≡ e * size + i → slice_get (clock_meanings size most ++ flat_map (pair_meanings size) used) place ≡ Some (clock_bit e i)
bit_at_place size most used place e i event below is =
    let f : ℕ → List Meaning = λ d. map (clock_bit d) (range_with_len 0 size) in
    let inside = mul-add-lt e size i most event below in
    slice_get_front (clock_meanings size most) (flat_map (pair_meanings size) used) place (omega (arith, is, inside, clocks_length size most)) ∙
    (slice_get_blocks f size (range_with_len 0 most) e i place (λ d. length-map-range_with_len (clock_bit d) 0 size) below is ∙
    (ap (λ o. at_block f o i) (range_at most e event) ∙ map_range_at (clock_bit e) 0 size i i below (omega arith)))

-- what is said of a pair
pub pair_at_place : (size most : ℕ) (used : List (ℕ × ℕ)) (place block bits : ℕ) → most ≤ block → bits < size → place ≡ block * size + bits → slice_get (clock_meanings size most ++ flat_map (pair_meanings size) used) place ≡ at_block (pair_meanings size) (slice_get used (block - most)) bits
pair_at_place size most used place block bits past below is =
    let width : (q : ℕ × ℕ) → length (pair_meanings size q) ≡ size = λ q. omega (arith, length-map-range_with_len (same_bits q.0 q.1) 1 (size - 1), below) in
    let whole : most + (block - most) ≡ block = omega (arith, past) in
    let split : block * size ≡ most * size + (block - most) * size = ap (λ (n : ℕ). n * size) (sym whole) ∙ add-mul most (block - most) size in
    slice_get_behind (clock_meanings size most) (flat_map (pair_meanings size) used) place ((block - most) * size + bits) (omega (arith, is, split, clocks_length size most)) ∙
    slice_get_blocks (pair_meanings size) size used (block - most) bits ((block - most) * size + bits) width below refl

pub pair_there : (size : ℕ) (o : Option (ℕ × ℕ)) (pair : ℕ × ℕ) (bits : ℕ) → o ≡ Some pair → bits < size → at_block (pair_meanings size) o bits ≡ Some (of_pair pair bits)
pair_there size o pair bits e below = ap (λ z. at_block (pair_meanings size) z bits) e ∙ pair_at size pair bits below

pub pair_not_there : (size : ℕ) (o : Option (ℕ × ℕ)) (bits : ℕ) → o ≡ None → at_block (pair_meanings size) o bits ≡ None
pair_not_there size o bits e = ap (λ z. at_block (pair_meanings size) z bits) e

-- ---- all meanings

pub behind_facts : (facts : List Fact) (most size : ℕ) (used : List (ℕ × ℕ)) (place : ℕ) → length facts ≤ place → slice_get (meanings_by facts most size used) place ≡ slice_get (clock_meanings size most ++ flat_map (pair_meanings size) used) (place - length facts)
behind_facts facts most size used place past =
    slice_get_behind (map fact facts) (clock_meanings size most ++ flat_map (pair_meanings size) used) place (place - length facts) (omega (arith, past, length-map facts fact))

-- clocks without bits have no variables
pub no_order : (size most : ℕ) (used : List (ℕ × ℕ)) (place : ℕ) → size ≡ 0 → (0 < length used → 0 < size) → slice_get (clock_meanings size most ++ flat_map (pair_meanings size) used) place ≡ None
no_order size most [] place none some =
    let all = length-append (clock_meanings size most) [] in
    let product : most * size ≡ 0 = ap (λ (n : ℕ). most * n) none ∙ mul-zero most in
    slice_get_past (clock_meanings size most ++ []) place (omega (arith, all, clocks_length size most, product))
no_order size most (q ∷ used) place none some = absurd (omega (arith, none, some (omega arith)))

-- ---- those of a program

abbrev parts_by : List Fact → ℕ → ℕ → List (ℕ × ℕ) → MeaningParts
parts_by facts most size used = record { facts = facts; events = most; size = size; used = used }

first_of_each : {X : Type 0} (P : Type 0) (xs : List X) → Each (λ _. P) xs → 0 < length xs → P
first_of_each P [] h some = absurd (omega (arith, some))
first_of_each P (x ∷ xs) h some = h.0

-- where events are compared, clocks have bits
pub some_bits : (p : MpiProgram) (used : List (ℕ × ℕ)) (size : ℕ) → used ≡ used_pairs p → size ≡ clock_size p → 0 < length used → 0 < size
some_bits p used size used_is size_is some =
    let count = ap length used_is in
    let positive = first_of_each (0 < clock_size p) (used_pairs p) (each_used p (λ _. 0 < clock_size p) (λ e f _ _ is_used. size_positive p e f is_used)) (omega (arith, some, count)) in
    omega (arith, positive, size_is)

pub parts_are : (p : MpiProgram) (facts : List Fact) (most size : ℕ) (used : List (ℕ × ℕ)) → facts ≡ facts_of p → most ≡ length (events p) → size ≡ clock_size p → used ≡ used_pairs p → parts_by facts most size used ≡ meaning_parts_of p
parts_are p facts most size used facts_are most_is size_is used_are =
    ap (λ l. parts_by l most size used) facts_are ∙ (ap (λ (n : ℕ). parts_by (facts_of p) n size used) most_is ∙
    (ap (λ (n : ℕ). parts_by (facts_of p) (length (events p)) n used) size_is ∙ ap (λ l. parts_by (facts_of p) (length (events p)) (clock_size p) l) used_are))

pub meaning_at : (p : MpiProgram) (variable : ℕ) (parts : MeaningParts) → (variable ≡ 0 → ⊥) → parts ≡ meaning_parts_of p → slice_get (meanings_in parts) (variable - 1) ≡ meaning_of p variable
meaning_at p zero parts some are = absurd (some refl)
meaning_at p (suc place) parts some are =
    let same : suc place - 1 ≡ place = omega arith in
    ap (slice_get (meanings_in parts)) same ∙ ap (λ l. slice_get (meanings_in l) place) are
