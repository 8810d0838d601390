-- Two meanings that pass the test are one, and an assignment that gives each its value.
use Rattle.std.proofs.Common.{◌≡◌, ℕ, suc, ◌+◌, Bool, true, false, ◌&&◌, ◌||◌, ◌==◌, List, [], ◌∷◌, map, get_or, refl, sym, ap, ◌∙◌, arith}
use Rattle.std.proofs.lemmas.Bool.{and_parts}
use Rattle.std.proofs.lemmas.Bool.Decides.{nat_tests}
use Rattle.std.specs.List.{list_any, position_or_len}
use Rattle.std.proofs.lemmas.Option.{unwrap_or-slice_get}
use Rattle.std.proofs.lemmas.List.{get_or-map}
use Rattle.std.proofs.lemmas.List.Sums.{passes_at_first}
use Rattle.callorder.specs.Programs.{MpiProgram}
use Rattle.clauses.specs.Clauses.{value_of}
use Rattle.formula.specs.Facts.{Fact, issued, buffered, matched, unfinished, Meaning, fact, clock_bit, before, same_bits}
use Rattle.formula.specs.Numbering.{meanings, is_same_fact, is_same_meaning}
use Rattle.formula.specs.Laws.{Means, AssignmentsMeanAll}
use Rattle.formula.proofs.Elements.{and_both, or_left, or_right, Each, each_mono, all_from_each, position_within}

equal : (a b : ℕ) → (a == b) ≡ true → a ≡ b
equal a b h = grind (arith, nat_tests)

same_fact : (a b : Fact) → is_same_fact a b ≡ true → a ≡ b
same_fact (issued c) (issued d) h = ap issued (equal c d h)
same_fact (issued c) (buffered d) h = absurd cc
same_fact (issued c) (matched u v) h = absurd cc
same_fact (issued c) (unfinished d) h = absurd cc
same_fact (buffered c) (issued d) h = absurd cc
same_fact (buffered c) (buffered d) h = ap buffered (equal c d h)
same_fact (buffered c) (matched u v) h = absurd cc
same_fact (buffered c) (unfinished d) h = absurd cc
same_fact (matched s t) (issued d) h = absurd cc
same_fact (matched s t) (buffered d) h = absurd cc
same_fact (matched s t) (matched u v) h =
    let parts = and_parts (s == u) (t == v) h in
    ap (λ (z : ℕ). matched z t) (equal s u parts.0) ∙ ap (λ (z : ℕ). matched u z) (equal t v parts.1)
same_fact (matched s t) (unfinished d) h = absurd cc
same_fact (unfinished c) (issued d) h = absurd cc
same_fact (unfinished c) (buffered d) h = absurd cc
same_fact (unfinished c) (matched u v) h = absurd cc
same_fact (unfinished c) (unfinished d) h = ap unfinished (equal c d h)

two : (f : ℕ → ℕ → Meaning) (a b c d : ℕ) → (a == c && b == d) ≡ true → f a b ≡ f c d
two f a b c d h =
    let parts = and_parts (a == c) (b == d) h in
    ap (λ (z : ℕ). f z b) (equal a c parts.0) ∙ ap (λ (z : ℕ). f c z) (equal b d parts.1)

three_tests : (a b c : Bool) → (a && b && c) ≡ true → ((a && b) ≡ true) × (c ≡ true)
three_tests true true true h = (refl, refl)
three_tests true true false h = absurd cc
three_tests true false true h = absurd cc
three_tests true false false h = absurd cc
three_tests false true true h = absurd cc
three_tests false true false h = absurd cc
three_tests false false true h = absurd cc
three_tests false false false h = absurd cc

pub same_meaning : (m n : Meaning) → is_same_meaning m n ≡ true → m ≡ n
same_meaning (fact a) (fact b) x = ap fact (same_fact a b x)
same_meaning (fact a) (clock_bit d j) x = absurd cc
same_meaning (fact a) (before d h) x = absurd cc
same_meaning (fact a) (same_bits d h j) x = absurd cc
same_meaning (clock_bit c i) (fact b) x = absurd cc
same_meaning (clock_bit c i) (clock_bit d j) x = two clock_bit c i d j x
same_meaning (clock_bit c i) (before d h) x = absurd cc
same_meaning (clock_bit c i) (same_bits d h j) x = absurd cc
same_meaning (before c f) (fact b) x = absurd cc
same_meaning (before c f) (clock_bit d j) x = absurd cc
same_meaning (before c f) (before d h) x = two before c f d h x
same_meaning (before c f) (same_bits d h j) x = absurd cc
same_meaning (same_bits c f i) (fact b) x = absurd cc
same_meaning (same_bits c f i) (clock_bit d j) x = absurd cc
same_meaning (same_bits c f i) (before d h) x = absurd cc
same_meaning (same_bits c f i) (same_bits d h j) x =
    let parts = three_tests (c == d) (f == h) (i == j) x in
    two (λ y z. same_bits y z i) c f d h parts.0 ∙ ap (same_bits d h) (equal i j parts.1)

-- ---- each meaning is itself

self : (n : ℕ) → (n == n) ≡ true
self n = grind (arith, nat_tests)

all_three : (a b c : Bool) → a ≡ true → b ≡ true → c ≡ true → (a && b && c) ≡ true
all_three true true c d e f = f
all_three true false c d e f = absurd cc
all_three false b c d e f = absurd cc

fact_is_itself : (a : Fact) → is_same_fact a a ≡ true
fact_is_itself (issued c) = self c
fact_is_itself (buffered c) = self c
fact_is_itself (matched s t) = and_both (s == s) (t == t) (self s) (self t)
fact_is_itself (unfinished r) = self r

meaning_is_itself : (m : Meaning) → is_same_meaning m m ≡ true
meaning_is_itself (fact a) = fact_is_itself a
meaning_is_itself (clock_bit e i) = and_both (e == e) (i == i) (self e) (self i)
meaning_is_itself (before e f) = and_both (e == e) (f == f) (self e) (self f)
meaning_is_itself (same_bits e f i) = all_three (e == e) (f == f) (i == i) (self e) (self f) (self i)

each_is_in : {X : Type 0} (test : X → X → Bool) → ((x : X) → test x x ≡ true) → (xs : List X) → Each (λ x. list_any (test x) xs ≡ true) xs
each_is_in test itself [] = tt
each_is_in test itself (x ∷ xs) = (
  or_left (test x x) (list_any (test x) xs) (itself x),
  each_mono (λ y. list_any (test y) xs ≡ true) (λ y. (test y x || list_any (test y) xs) ≡ true) (λ y h. or_right (test y x) (list_any (test y) xs) h) xs
      (each_is_in test itself xs),
)

-- ---- the assignment of values

value_at : (values : List Bool) (place : ℕ) → value_of values (place + 1) ≡ get_or values place false
value_at values place =
    let e : place + 1 ≡ suc place = omega arith in
    ap (value_of values) e ∙ unwrap_or-slice_get values place false

means : (p : MpiProgram) (is_so : Meaning → Bool) (m : Meaning) → list_any (is_same_meaning m) (meanings p) ≡ true → Means p (value_of (map is_so (meanings p))) is_so m
means p is_so m h =
    let test : Meaning → Bool = is_same_meaning m in
    let place = position_or_len test (meanings p) in
    let inside = position_within test (meanings p) h in
    let same = same_meaning m (get_or (meanings p) place m) (passes_at_first test (meanings p) m inside) in
    value_at (map is_so (meanings p)) place ∙ get_or-map is_so (meanings p) place m false inside ∙ ap is_so (sym same)

pub assignments_mean_all : AssignmentsMeanAll
assignments_mean_all p is_so =
    all_from_each (Means p (value_of (map is_so (meanings p))) is_so) (meanings p)
    (each_mono (λ m. list_any (is_same_meaning m) (meanings p) ≡ true) (Means p (value_of (map is_so (meanings p))) is_so) (means p is_so) (meanings p)
    (each_is_in is_same_meaning meaning_is_itself (meanings p)))
