-- The clauses on the order of events are written in their normal form: their variables rise.
use Rattle.std.proofs.Common.{◌≡◌, ℕ, zero, suc, ◌+◌, ◌*◌, ◌<◌, ◌≤◌, Bool, true, false, ◌&&◌, ◌||◌, ◌==◌, nat_lt, if◌then◌else◌, List, [], ◌∷◌, ◌++◌, map, length, refl, ap, ◌∙◌, append_assoc, arith}
use Rattle.std.specs.List.{flat_map, fold, range_with_len}
use Rattle.std.proofs.Math.Nat.{suc-mul, mul-le-mul_right}
use Rattle.std.proofs.lemmas.Bool.{and_parts, ltb-true}
use Rattle.std.proofs.lemmas.Bool.Decides.{nat_tests}
use Rattle.callorder.specs.Programs.{MpiProgram}
use Rattle.clauses.specs.Clauses.{Literal, rises_above, rises}
use Rattle.formula.specs.Facts.{clock_bit, before, same_bits}
use Rattle.formula.specs.Families.{events}
use Rattle.formula.specs.Orders.{clock_size, used_pairs, SignedMeaning, so, not_so, differ_before, same_up_to, bits_agree, bit_decides, pair_clauses, order_clauses}
use Rattle.formula.specs.Numbering.{variable_of, comes_first, insert_literal, has_both_signs, unless_true, in_normal_form, literal_of_signed}
use Rattle.formula.specs.Laws.{OrderIsInNormalForm}
use Rattle.formula.proofs.Elements.{and_both, or_left, Each, each_append, each_mono, each_flat_map, each_range, position_within}
use Rattle.formula.proofs.Used.{is_pair, IsUsed, each_used}
use Rattle.formula.proofs.Numbers.{numbers_of_order}

-- ---- what rises is in normal form

test_of : (a b : ℕ) → a < b → nat_lt a b ≡ true
test_of a b h = grind (arith, nat_tests)

put_last : (a : Literal) (clause : List Literal) → Each (λ b. b.variable < a.variable) clause → insert_literal a clause ≡ clause ++ (a ∷ [])
put_last a [] h = refl
put_last a (b ∷ clause) h =
    let first : comes_first b a ≡ true = or_left (nat_lt b.variable a.variable) _ (test_of b.variable a.variable h.0) in
    ap (λ z. if z then b ∷ insert_literal a clause else if comes_first a b then a ∷ (b ∷ clause) else b ∷ clause) first ∙ ap (λ (l : List Literal). b ∷ l) (put_last a clause h.1)

append_none : {X : Type 0} (xs : List X) → xs ≡ xs ++ []
append_none [] = refl
append_none {X} (x ∷ xs) = ap (λ (l : List X). x ∷ l) (append_none xs)

fold_written : (literals acc : List Literal) (low : ℕ) → Each (λ b. b.variable ≤ low) acc → rises_above low literals ≡ true → fold (λ clause a. insert_literal a clause) acc literals ≡ acc ++ literals
fold_written [] acc low below h = append_none acc
fold_written (a ∷ literals) acc low below h =
    let parts = and_parts (nat_lt low a.variable) (rises_above a.variable literals) h in
    let above : low < a.variable = ltb-true low a.variable parts.0 in
    let last = put_last a acc (each_mono (λ b. b.variable ≤ low) (λ b. b.variable < a.variable) (λ b k. omega (arith, k, above)) acc below) in
    let more : Each (λ b. b.variable ≤ a.variable) (acc ++ (a ∷ [])) =
    each_append (λ b. b.variable ≤ a.variable) acc (a ∷ []) (each_mono (λ b. b.variable ≤ low) (λ b. b.variable ≤ a.variable) (λ b k. omega (arith, k, above)) acc below) (omega arith, tt) in
    ap (λ (l : List Literal). fold (λ clause b. insert_literal b clause) l literals) last ∙ fold_written literals (acc ++ (a ∷ [])) a.variable more parts.1 ∙ append_assoc acc (a ∷ []) literals

apart : (a b : ℕ) → a < b → (a == b) ≡ false
apart a b h = grind (arith, nat_tests)

one_sign : (literals : List Literal) (low : ℕ) → rises_above low literals ≡ true → has_both_signs literals ≡ false
one_sign [] low h = refl
one_sign (a ∷ []) low h = refl
one_sign (a ∷ (b ∷ literals)) low h =
    let outer = and_parts (nat_lt low a.variable) (rises_above a.variable (b ∷ literals)) h in
    let inner = and_parts (nat_lt a.variable b.variable) (rises_above b.variable literals) outer.1 in
    ap (λ z. z || has_both_signs (b ∷ literals)) (apart a.variable b.variable (ltb-true a.variable b.variable inner.0)) ∙ one_sign (b ∷ literals) a.variable outer.1

in_normal_form_already : (literals : List Literal) → rises literals ≡ true → in_normal_form literals ≡ literals ∷ []
in_normal_form_already literals h =
    ap unless_true (fold_written literals [] 0 tt h) ∙ ap (λ z. if z then [] else literals ∷ []) (one_sign literals 0 h)

-- ---- the variables of a pair rise

-- the clause, with its variables numbered, rises above this number
abbrev Rises : MpiProgram → ℕ → List SignedMeaning → Type 0
Rises p low clause = rises_above low (map (literal_of_signed p) clause) ≡ true

-- the numbers of a pair: the clocks' bits, the order, and the same bits
record Numbers (p : MpiProgram) (e f i : ℕ) : Type 0 where
  first : variable_of p (clock_bit e i) < variable_of p (clock_bit f i)
  second : variable_of p (clock_bit f i) < variable_of p (before e f)
  others : (n : ℕ) → 0 < n → n < clock_size p → variable_of p (same_bits e f n) ≡ variable_of p (before e f) + n

products : (a b k : ℕ) → a < b → a * k + k ≤ b * k
products a b k h =
    let le : suc a * k ≤ b * k = mul-le-mul_right k (omega (arith, h)) in
    let e : suc a * k ≡ a * k + k = suc-mul a k in
    omega (arith, le, e)

numbers : (p : MpiProgram) (e f i : ℕ) → e < f → f < length (events p) → IsUsed p e f → i < clock_size p → Numbers p e f i
numbers p e f i first below used inside =
    let size = clock_size p in
    let law = numbers_of_order p in
    let place = position_within (is_pair e f) (used_pairs p) used in
    let one = law.0 e i (omega (arith, first, below)) inside in
    let other = law.0 f i below inside in
    let order = law.1 e f place in
    let low = products e f size first in
    let high = products f (length (events p)) size below in
    record {
      first = omega (arith, one, other, low, inside);
      second = omega (arith, other, order, high, inside);
      others = λ n positive n_inside. (let third = law.2 e f n place positive n_inside in omega (arith, order, third));
    }

rest_rises : (p : MpiProgram) (e f i : ℕ) (b : Bool) → nat_lt (suc i) (clock_size p) ≡ b → i < clock_size p → ((n : ℕ) → 0 < n → n < clock_size p → variable_of p (same_bits e f n) ≡ variable_of p (before e f) + n) → Rises p (variable_of p (before e f)) (differ_before e f i ++ (if b then so (same_bits e f (suc i)) ∷ [] else []))
rest_rises p e f zero false is inside same = refl
rest_rises p e f zero true is inside same =
    let e1 = same 1 (omega arith) (ltb-true 1 (clock_size p) is) in
    and_both (nat_lt (variable_of p (before e f)) (variable_of p (same_bits e f 1))) true (test_of (variable_of p (before e f)) (variable_of p (same_bits e f 1)) (omega (arith, e1))) refl
rest_rises p e f (suc i) false is inside same =
    let e1 = same (suc i) (omega arith) inside in
    and_both (nat_lt (variable_of p (before e f)) (variable_of p (same_bits e f (suc i)))) true (test_of (variable_of p (before e f)) (variable_of p (same_bits e f (suc i))) (omega (arith, e1))) refl
rest_rises p e f (suc i) true is inside same =
    let e1 = same (suc i) (omega arith) inside in
    let e2 = same (suc (suc i)) (omega arith) (ltb-true (suc (suc i)) (clock_size p) is) in
    let t = variable_of p (before e f) in
    let u = variable_of p (same_bits e f (suc i)) in
    let v = variable_of p (same_bits e f (suc (suc i))) in
    and_both (nat_lt t u) (nat_lt u v && true) (test_of t u (omega (arith, e1))) (and_both (nat_lt u v) true (test_of u v (omega (arith, e1, e2))) refl)

agree_rises : (p : MpiProgram) (e f i : ℕ) (b : Bool) → nat_lt (suc i) (clock_size p) ≡ b → Numbers p e f i → Each (Rises p 0) (if b then (not_so (clock_bit e i) ∷ so (clock_bit f i) ∷ not_so (same_bits e f (suc i)) ∷ []) ∷ (so (clock_bit e i) ∷ not_so (clock_bit f i) ∷ not_so (same_bits e f (suc i)) ∷ []) ∷ [] else [])
agree_rises p e f i false is h = tt
agree_rises p e f i true is h =
    let x = variable_of p (clock_bit e i) in
    let y = variable_of p (clock_bit f i) in
    let z = variable_of p (same_bits e f (suc i)) in
    let e1 = h.others (suc i) (omega arith) (ltb-true (suc i) (clock_size p) is) in
    let second = h.second in
    let rise : (nat_lt 0 x && (nat_lt x y && (nat_lt y z && true))) ≡ true =
    and_both (nat_lt 0 x) (nat_lt x y && (nat_lt y z && true)) (test_of 0 x (omega arith))
    (and_both (nat_lt x y) (nat_lt y z && true) (test_of x y h.first) (and_both (nat_lt y z) true (test_of y z (omega (arith, e1, second))) refl)) in
    (rise, (rise, tt))

decide_rises : (p : MpiProgram) (e f i : ℕ) → i < clock_size p → Numbers p e f i → Each (Rises p 0) (bit_decides (clock_size p) e f i)
decide_rises p e f i inside h =
    let x = variable_of p (clock_bit e i) in
    let y = variable_of p (clock_bit f i) in
    let t = variable_of p (before e f) in
    let first = h.first in
    let second = h.second in
    let rest = rest_rises p e f i (nat_lt (suc i) (clock_size p)) refl inside h.others in
    let others : Bool = rises_above t (map (literal_of_signed p) (differ_before e f i ++ same_up_to (clock_size p) e f i)) in
    let one : (nat_lt 0 x && (nat_lt x t && others)) ≡ true =
    and_both (nat_lt 0 x) (nat_lt x t && others) (test_of 0 x (omega arith)) (and_both (nat_lt x t) others (test_of x t (omega (arith, first, second))) rest) in
    let two : (nat_lt 0 y && (nat_lt y t && others)) ≡ true =
    and_both (nat_lt 0 y) (nat_lt y t && others) (test_of 0 y (omega arith)) (and_both (nat_lt y t) others (test_of y t second) rest) in
    (one, (two, (one, (two, tt))))

clauses_rise : (p : MpiProgram) → Each (Rises p 0) (order_clauses p)
clauses_rise p =
    let size = clock_size p in
    each_flat_map (Rises p 0) (pair_clauses size) (used_pairs p)
    (each_used p (λ q. Each (Rises p 0) (pair_clauses size q)) (λ e f first below used.
    each_flat_map (Rises p 0) (λ i. bits_agree size e f i ++ bit_decides size e f i) (range_with_len 0 size)
    (each_range (λ i. Each (Rises p 0) (bits_agree size e f i ++ bit_decides size e f i)) 0 size (λ i _ i_below.
    let inside : i < clock_size p = omega (arith, i_below) in
    let h = numbers p e f i first below used inside in
    each_append (Rises p 0) (bits_agree size e f i) (bit_decides size e f i) (agree_rises p e f i (nat_lt (suc i) size) refl h) (decide_rises p e f i inside h)))))

written : (p : MpiProgram) (clauses : List (List SignedMeaning)) → Each (Rises p 0) clauses → flat_map (λ clause. in_normal_form (map (literal_of_signed p) clause)) clauses ≡ map (map (literal_of_signed p)) clauses
written p [] h = refl
written p (clause ∷ clauses) h =
    ap (λ (l : List (List Literal)). l ++ flat_map (λ c. in_normal_form (map (literal_of_signed p) c)) clauses) (in_normal_form_already (map (literal_of_signed p) clause) h.0) ∙
    ap (λ (l : List (List Literal)). map (literal_of_signed p) clause ∷ l) (written p clauses h.1)

pub order_is_in_normal_form : OrderIsInNormalForm
order_is_in_normal_form p = written p (order_clauses p) (clauses_rise p)
