-- The order of events and their clocks: what an assignment that satisfies the clauses on the order
-- says, and what clocks make of the variables.
use Rattle.std.proofs.Common.{◌≡◌, ◌≢◌, ℕ, ◌-◌, ◌/◌, ◌^◌, ◌<◌, ◌≤◌, Bool, true, false, ◌&&◌, ◌==◌, nat_lt, List, [], ◌∷◌, map, length, refl, sym, ap, ◌∙◌, subst, arith}
use Rattle.std.specs.List.{flat_map, list_any}
use Rattle.std.proofs.lemmas.Bool.Decides.{nat_tests}
use Rattle.std.proofs.lemmas.List.Folds.{list_all-append}
use Rattle.callorder.specs.Programs.{MpiProgram}
use Rattle.clauses.specs.Clauses.{TruthAssignment, makes_true, satisfies_clause, satisfies}
use Rattle.formula.specs.Facts.{Fact, Meaning, clock_bit, before, same_bits}
use Rattle.formula.specs.Families.{events}
use Rattle.formula.specs.Orders.{clock_size, first_bits, bit_of, used_pairs, order_meanings, SignedMeaning, pair_clauses, order_clauses, is_so_by}
use Rattle.formula.specs.Numbering.{is_same_meaning, variable_of, in_normal_form, literal_of_signed}
use Rattle.formula.specs.Laws.{ClocksSuffice, clock_in, IsOrderTold, OrderGivesClocks, Means, ClocksGiveOrder}
use Rattle.formula.proofs.Elements.{any_map, Each, each_mono, each_both, each_at_test, each_from_all, all_flat_map, all_from_each, each_of_all}
use Rattle.formula.proofs.NormalForms.{in_normal_form_means}
use Rattle.formula.proofs.Bits.{first_bits_of, all_bits_of, bits_for_enough, bits_for_two}
use Rattle.formula.proofs.Meanings.{same_meaning}
use Rattle.formula.proofs.Used.{IsUsed, each_used, IsOfOrder, bit_stands, before_stands, same_stands}
use Rattle.formula.proofs.Comparisons.{says, are_so, pair_compared, pair_so_by}

pub clocks_suffice : ClocksSuffice
clocks_suffice p = bits_for_enough (length (events p))

-- ---- the numbered clauses mean what they say

abbrev value_in : MpiProgram → TruthAssignment → Meaning → Bool
value_in p a m = a (variable_of p m)

order_means : (p : MpiProgram) (a : TruthAssignment) (clauses : List (List SignedMeaning)) → satisfies a (flat_map (λ clause. in_normal_form (map (literal_of_signed p) clause)) clauses) ≡ are_so (value_in p a) clauses
order_means p a [] = refl
order_means p a (clause ∷ clauses) =
    list_all-append (satisfies_clause a) (in_normal_form (map (literal_of_signed p) clause)) (flat_map (λ c. in_normal_form (map (literal_of_signed p) c)) clauses) ∙
    ap (λ z. z && satisfies a (flat_map (λ c. in_normal_form (map (literal_of_signed p) c)) clauses)) (in_normal_form_means a (map (literal_of_signed p) clause) ∙ any_map (makes_true a) (literal_of_signed p) clause) ∙
    ap (λ z. list_any (says (value_in p a)) clause && z) (order_means p a clauses)

-- ---- from the clauses to clocks

some_bit : (p : MpiProgram) (e f : ℕ) → e < f → f < length (events p) → 0 < clock_size p
some_bit p e f first below = bits_for_two (length (events p)) (omega (arith, first, below))

told_of : (p : MpiProgram) (a : TruthAssignment) (e f : ℕ) → e < f → f < length (events p) → are_so (value_in p a) (pair_clauses (clock_size p) (e, f)) ≡ true → IsOrderTold p a (clock_in p a) (e, f)
told_of p a e f first below h =
    let c = pair_compared (value_in p a) (clock_size p) e f (some_bit p e f first below) h in (c.differ, c.tells)

pub order_gives_clocks : OrderGivesClocks
order_gives_clocks p a h =
    let value = value_in p a in
    let size = clock_size p in
    let P : ℕ × ℕ → Type 0 = λ q. are_so value (pair_clauses size q) ≡ true in
    let said : Each P (used_pairs p) = each_from_all (list_any (says value)) (pair_clauses size) (used_pairs p) (sym (order_means p a (order_clauses p)) ∙ h) in
    all_from_each (IsOrderTold p a (clock_in p a)) (used_pairs p)
    (each_mono (λ q. P q × (P q → IsOrderTold p a (clock_in p a) q)) (IsOrderTold p a (clock_in p a)) (λ q both. both.1 both.0) (used_pairs p)
    (each_both P (λ q. P q → IsOrderTold p a (clock_in p a) q) (used_pairs p) said
    (each_used p (λ q. P q → IsOrderTold p a (clock_in p a) q) (λ e f first below used. told_of p a e f first below))))

-- ---- from clocks to the clauses

meaning_told : (p : MpiProgram) (a : TruthAssignment) (is_so : Meaning → Bool) → Each (Means p a is_so) (order_meanings p) → (m : Meaning) → IsOfOrder p m → a (variable_of p m) ≡ is_so m
meaning_told p a is_so told m h =
    let found = each_at_test (Means p a is_so) (is_same_meaning m) (order_meanings p) told h in
    let same : m ≡ found.0 = same_meaning m found.0 found.1 in
    subst (λ (z : Meaning). a (variable_of p z) ≡ is_so z) (sym same) found.2

differ_test : (x y : ℕ) → x ≢ y → (x == y) ≡ false
differ_test x y h = grind (arith, nat_tests)

begin_alike : (size x y n : ℕ) → x < 2 ^ size → y < 2 ^ size → n ≤ size → (x / 2 ^ (size - n) == y / 2 ^ (size - n)) ≡ (first_bits (bit_of size x) n == first_bits (bit_of size y) n)
begin_alike size x y n x_fits y_fits most =
    ap (λ (z : ℕ). z == y / 2 ^ (size - n)) (sym (first_bits_of size x n x_fits most)) ∙
    ap (λ (z : ℕ). first_bits (bit_of size x) n == z) (sym (first_bits_of size y n y_fits most))

compare_alike : (size x y : ℕ) → x < 2 ^ size → y < 2 ^ size → nat_lt x y ≡ nat_lt (first_bits (bit_of size x) size) (first_bits (bit_of size y) size)
compare_alike size x y x_fits y_fits =
    ap (λ (z : ℕ). nat_lt z y) (sym (all_bits_of size x x_fits)) ∙
    ap (λ (z : ℕ). nat_lt (first_bits (bit_of size x) size) z) (sym (all_bits_of size y y_fits))

differ_alike : (size x y : ℕ) → x < 2 ^ size → y < 2 ^ size → x ≢ y → (first_bits (bit_of size x) size == first_bits (bit_of size y) size) ≡ false
differ_alike size x y x_fits y_fits differ =
    ap (λ (z : ℕ). z == first_bits (bit_of size y) size) (all_bits_of size x x_fits) ∙
    ap (λ (z : ℕ). x == z) (all_bits_of size y y_fits) ∙
    differ_test x y differ

pair_of_clocks : (p : MpiProgram) (a : TruthAssignment) (has : Fact → Bool) (clock : ℕ → ℕ) → ((e : ℕ) → e < length (events p) → clock e < 2 ^ clock_size p) → Each (Means p a (is_so_by has (clock_size p) clock)) (order_meanings p) → (e f : ℕ) → e < f → f < length (events p) → IsUsed p e f → clock e ≢ clock f → are_so (value_in p a) (pair_clauses (clock_size p) (e, f)) ≡ true
pair_of_clocks p a has clock fits told e f first below used differ =
    let size = clock_size p in
    let value = value_in p a in
    let is = meaning_told p a (is_so_by has (clock_size p) clock) told in
    let e_below : e < length (events p) = omega (arith, first, below) in
    let e_fits = fits e e_below in
    let f_fits = fits f below in
    pair_so_by value size e f (bit_of size (clock e)) (bit_of size (clock f))
    (λ i inside. is (clock_bit e i) (bit_stands p e i e_below inside))
    (λ i inside. is (clock_bit f i) (bit_stands p f i below inside))
    (λ n positive inside. is (same_bits e f n) (same_stands p e f n used positive inside) ∙ begin_alike size (clock e) (clock f) n e_fits f_fits (omega (arith, inside)))
    (is (before e f) (before_stands p e f used) ∙ compare_alike size (clock e) (clock f) e_fits f_fits)
    (differ_alike size (clock e) (clock f) e_fits f_fits differ)

pub clocks_give_order : ClocksGiveOrder
clocks_give_order p a has clock fits differ told =
    let value = value_in p a in
    let size = clock_size p in
    let D : ℕ × ℕ → Type 0 = λ q. clock q.0 ≢ clock q.1 in
    let S : ℕ × ℕ → Type 0 = λ q. are_so value (pair_clauses size q) ≡ true in
    let each = each_of_all (Means p a (is_so_by has (clock_size p) clock)) (order_meanings p) told in
    let apart : Each D (used_pairs p) = each_of_all D (used_pairs p) differ in (
      order_means p a (order_clauses p) ∙
          all_flat_map (list_any (says value)) (pair_clauses size) (used_pairs p)
          (each_mono (λ q. D q × (D q → S q)) S (λ q both. both.1 both.0) (used_pairs p)
          (each_both D (λ q. D q → S q) (used_pairs p) apart
          (each_used p (λ q. D q → S q) (λ e f first below used d. pair_of_clocks p a has clock fits each e f first below used d)))),
      all_from_each (IsOrderTold p a clock) (used_pairs p)
          (each_mono (λ q. D q × (D q → IsOrderTold p a clock q)) (IsOrderTold p a clock) (λ q both. both.1 both.0) (used_pairs p)
          (each_both D (λ q. D q → IsOrderTold p a clock q) (used_pairs p) apart
          (each_used p (λ q. D q → IsOrderTold p a clock q) (λ e f first below used d. (
            d,
            meaning_told p a (is_so_by has (clock_size p) clock) each (before e f) (before_stands p e f used),
          ))))),
    )
