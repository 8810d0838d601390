-- The used pairs of events: what stands among them, and the variables on the order of events.
use Rattle.std.proofs.Common.{◌≡◌, ℕ, zero, suc, ◌+◌, ◌-◌, ◌<◌, Bool, true, false, ◌&&◌, ◌==◌, nat_lt, if◌then◌else◌, List, [], ◌∷◌, ◌++◌, map, length, refl, ◌∙◌, arith}
use Rattle.std.specs.List.{flat_map, range_with_len, list_any}
use Rattle.std.proofs.lemmas.Bool.{ltb-true}
use Rattle.callorder.specs.Programs.{MpiProgram}
use Rattle.formula.specs.Facts.{RunEvent, Meaning, fact, clock_bit, before, same_bits, Statement, is_true, is_false, is_earlier, is_same_event}
use Rattle.formula.specs.Families.{SymbolicClause, events, place_of_event, families_with_orders}
use Rattle.formula.specs.Orders.{clock_size, between, event_pairs, places_in, stated_orders, are_of_same_events, is_among, used_pairs, clock_meanings, pair_meanings, order_meanings, SignedMeaning, so, not_so, differ_before, same_up_to, bits_agree, bit_decides, pair_clauses, order_clauses}
use Rattle.formula.specs.Numbering.{facts, is_same_meaning}
use Rattle.formula.proofs.Elements.{and_both, or_left, or_right, each_mono, Each, each_append, each_map, each_flat_map, each_filter, each_range, each_found, any_append_left, any_append_right, any_map, any_flat_map, any_filter, any_range, any_mono, position_within}
use Rattle.formula.proofs.Named.{equal_self, IsVariable, IsEvent, Clauses}

-- ---- used pairs

abbrev pub is_pair : ℕ → ℕ → ℕ × ℕ → Bool
is_pair e f q = e == q.0 && f == q.1

abbrev pub IsUsed : MpiProgram → ℕ → ℕ → Type 0
IsUsed p e f = list_any (is_pair e f) (used_pairs p) ≡ true

used_from : (p : MpiProgram) (e f : ℕ) → e < f → f < length (events p) → is_among (stated_orders p) (e, f) ≡ true → IsUsed p e f
used_from p e f first below among =
    let most = length (events p) in
    let both : ℕ × ℕ → Bool = λ q. is_among (stated_orders p) q && is_pair e f q in
    any_filter (is_pair e f) (is_among (stated_orders p)) (event_pairs most) ∙
    (any_flat_map both (λ d. map (λ g. (d, g)) (between d most)) (range_with_len 0 most) ∙
    any_range (λ d. list_any both (map (λ g. (d, g)) (between d most))) 0 most e (omega arith) (omega arith)
    (any_map both (λ g. (e, g)) (between e most) ∙
    any_range (λ g. both (e, g)) (e + 1) (most - (e + 1)) f (omega arith) (omega arith)
    (and_both (is_among (stated_orders p) (e, f)) (e == e && f == f) among (and_both (e == e) (f == f) (equal_self e) (equal_self f)))))

pub each_used : (p : MpiProgram) (P : ℕ × ℕ → Type 0) → ((e f : ℕ) → e < f → f < length (events p) → IsUsed p e f → P (e, f)) → Each P (used_pairs p)
each_used p P h =
    let most = length (events p) in
    each_filter P (is_among (stated_orders p)) (event_pairs most)
    (each_flat_map (λ q. is_among (stated_orders p) q ≡ true → P q) (λ e. map (λ f. (e, f)) (between e most)) (range_with_len 0 most)
    (each_range (λ e. Each (λ q. is_among (stated_orders p) q ≡ true → P q) (map (λ f. (e, f)) (between e most))) 0 most (λ e _ _.
    each_map (λ q. is_among (stated_orders p) q ≡ true → P q) (λ f. (e, f)) (between e most)
    (each_range (λ f. is_among (stated_orders p) (e, f) ≡ true → P (e, f)) (e + 1) (most - (e + 1)) (λ f above below among.
    let first : e < f = omega (arith, above) in
    let inside : f < most = omega (arith, above, below) in
    h e f first inside (used_from p e f first inside among))))))

-- ---- the orders that clauses state

-- the order that the statement states, if any, is among those of the program
abbrev pub IsStated : MpiProgram → Statement → Type 0
IsStated p (is_true a) = Unit {0}
IsStated p (is_false a) = Unit {0}
IsStated p (is_earlier e f) = (test : ℕ × ℕ → Bool) → test (place_of_event p e, place_of_event p f) ≡ true → list_any test (stated_orders p) ≡ true

stated_from : (p : MpiProgram) (x : Statement) → ((test : ℕ × ℕ → Bool) → list_any test (places_in p x) ≡ true → list_any test (stated_orders p) ≡ true) → IsStated p x
stated_from p (is_true a) h = tt
stated_from p (is_false a) h = tt
stated_from p (is_earlier e f) h = λ test passes. h test (or_left (test (place_of_event p e, place_of_event p f)) false passes)

abbrev FoundIn : {X : Type 0} → MpiProgram → (X → List (ℕ × ℕ)) → List (ℕ × ℕ) → X → Type 0
FoundIn p f all x = (test : ℕ × ℕ → Bool) → list_any test (f x) ≡ true → list_any test all ≡ true

clause_stated : (p : MpiProgram) (clause : SymbolicClause) → FoundIn p (flat_map (places_in p)) (stated_orders p) clause → Each (IsStated p) clause
clause_stated p clause h =
    each_mono (FoundIn p (places_in p) (flat_map (places_in p) clause)) (IsStated p) (λ x found. stated_from p x (λ test e. h test (found test e))) clause
    (each_found (places_in p) clause)

clauses_stated : (p : MpiProgram) (clauses : List SymbolicClause) → FoundIn p (flat_map (flat_map (places_in p))) (stated_orders p) clauses → Clauses (IsStated p) clauses
clauses_stated p clauses h =
    each_mono (FoundIn p (flat_map (places_in p)) (flat_map (flat_map (places_in p)) clauses)) (Each (IsStated p)) (λ clause found. clause_stated p clause (λ test e. h test (found test e))) clauses
    (each_found (flat_map (places_in p)) clauses)

pub orders_stated : (p : MpiProgram) → Each (Clauses (IsStated p)) (families_with_orders p)
orders_stated p =
    each_mono (FoundIn p (flat_map (flat_map (places_in p))) (stated_orders p)) (Clauses (IsStated p)) (clauses_stated p) (families_with_orders p)
    (each_found (flat_map (flat_map (places_in p))) (families_with_orders p))

pub used_where_first : (p : MpiProgram) (e f : RunEvent) → IsEvent p f → IsStated p (is_earlier e f) → place_of_event p e < place_of_event p f → IsUsed p (place_of_event p e) (place_of_event p f)
used_where_first p e f event stated first =
    let a = place_of_event p e in
    let b = place_of_event p f in
    used_from p a b first (position_within (is_same_event f) (events p) event)
    (stated (are_of_same_events (a, b)) (or_left (a == a && b == b) _ (and_both (a == a) (b == b) (equal_self a) (equal_self b))))

pub used_where_second : (p : MpiProgram) (e f : RunEvent) → IsEvent p e → IsStated p (is_earlier e f) → place_of_event p f < place_of_event p e → IsUsed p (place_of_event p f) (place_of_event p e)
used_where_second p e f event stated first =
    let a = place_of_event p e in
    let b = place_of_event p f in
    used_from p b a first (position_within (is_same_event e) (events p) event)
    (stated (are_of_same_events (b, a)) (or_right (b == a && a == b) _ (and_both (b == b) (a == a) (equal_self b) (equal_self a))))

-- ---- variables on the order of events

-- the meaning is one of those on the order
abbrev pub IsOfOrder : MpiProgram → Meaning → Type 0
IsOfOrder p m = list_any (is_same_meaning m) (order_meanings p) ≡ true

of_order : (p : MpiProgram) (m : Meaning) → IsOfOrder p m → IsVariable p m
of_order p m h = any_append_right (is_same_meaning m) (map fact (facts p)) (order_meanings p) h

pub bit_stands : (p : MpiProgram) (e i : ℕ) → e < length (events p) → i < clock_size p → IsOfOrder p (clock_bit e i)
bit_stands p e i event below =
    let test : Meaning → Bool = is_same_meaning (clock_bit e i) in
    let size = clock_size p in
    let most = length (events p) in
    (any_append_left test (clock_meanings size most) (flat_map (pair_meanings size) (used_pairs p))
    (any_flat_map test (λ d. map (clock_bit d) (range_with_len 0 size)) (range_with_len 0 most) ∙
    any_range (λ d. list_any test (map (clock_bit d) (range_with_len 0 size))) 0 most e (omega arith) (omega arith)
    (any_map test (clock_bit e) (range_with_len 0 size) ∙
    any_range (λ j. e == e && i == j) 0 size i (omega arith) (omega arith) (and_both (e == e) (i == i) (equal_self e) (equal_self i)))))

of_pair : (p : MpiProgram) (m : Meaning) (e f : ℕ) → IsUsed p e f → ((q : ℕ × ℕ) → is_pair e f q ≡ true → list_any (is_same_meaning m) (pair_meanings (clock_size p) q) ≡ true) → IsOfOrder p m
of_pair p m e f used h =
    let test : Meaning → Bool = is_same_meaning m in
    let size = clock_size p in
    (any_append_right test (clock_meanings size (length (events p))) (flat_map (pair_meanings size) (used_pairs p))
    (any_flat_map test (pair_meanings size) (used_pairs p) ∙
    any_mono (λ q. list_any test (pair_meanings size q)) (is_pair e f) h (used_pairs p) used))

pub before_stands : (p : MpiProgram) (e f : ℕ) → IsUsed p e f → IsOfOrder p (before e f)
before_stands p e f used = of_pair p (before e f) e f used (λ q h. or_left (is_pair e f q) _ h)

three : (a b c : Bool) → (a && b) ≡ true → c ≡ true → (a && b && c) ≡ true
three true true c h e = e
three true false c h e = h
three false b c h e = h

pub same_stands : (p : MpiProgram) (e f i : ℕ) → IsUsed p e f → 0 < i → i < clock_size p → IsOfOrder p (same_bits e f i)
same_stands p e f i used positive below =
    let test : Meaning → Bool = is_same_meaning (same_bits e f i) in
    let size = clock_size p in
    of_pair p (same_bits e f i) e f used (λ q h.
    any_map test (same_bits q.0 q.1) (range_with_len 1 (size - 1)) ∙
    any_range (λ j. e == q.0 && f == q.1 && i == j) 1 (size - 1) i (omega arith) (omega arith) (three (e == q.0) (f == q.1) (i == i) h (equal_self i)))

bit_named : (p : MpiProgram) (e i : ℕ) → e < length (events p) → i < clock_size p → IsVariable p (clock_bit e i)
bit_named p e i event below = of_order p (clock_bit e i) (bit_stands p e i event below)

pub before_named : (p : MpiProgram) (e f : ℕ) → IsUsed p e f → IsVariable p (before e f)
before_named p e f used = of_order p (before e f) (before_stands p e f used)

same_named : (p : MpiProgram) (e f i : ℕ) → IsUsed p e f → 0 < i → i < clock_size p → IsVariable p (same_bits e f i)
same_named p e f i used positive below = of_order p (same_bits e f i) (same_stands p e f i used positive below)

-- ---- the clauses on the order of events speak of these variables

abbrev pub NamesMeaning : MpiProgram → SignedMeaning → Type 0
NamesMeaning p x = IsVariable p x.meaning

agree_named : (p : MpiProgram) (e f i : ℕ) (b : Bool) → nat_lt (suc i) (clock_size p) ≡ b → e < length (events p) → f < length (events p) → IsUsed p e f → i < clock_size p → Each (Each (NamesMeaning p)) (if b then (not_so (clock_bit e i) ∷ so (clock_bit f i) ∷ not_so (same_bits e f (suc i)) ∷ []) ∷ (so (clock_bit e i) ∷ not_so (clock_bit f i) ∷ not_so (same_bits e f (suc i)) ∷ []) ∷ [] else [])
agree_named p e f i true is e_below f_below used below =
    let x = bit_named p e i e_below below in
    let y = bit_named p f i f_below below in
    let z = same_named p e f (suc i) used (omega arith) (ltb-true (suc i) (clock_size p) is) in
    ((x, (y, (z, tt))), ((x, (y, (z, tt))), tt))
agree_named p e f i false is e_below f_below used below = tt

differ_named : (p : MpiProgram) (e f i : ℕ) → IsUsed p e f → i < clock_size p → Each (NamesMeaning p) (differ_before e f i)
differ_named p e f zero used below = tt
differ_named p e f (suc i) used below = (same_named p e f (suc i) used (omega arith) below, tt)

up_to_named : (p : MpiProgram) (e f i : ℕ) (b : Bool) → nat_lt (suc i) (clock_size p) ≡ b → IsUsed p e f → Each (NamesMeaning p) (if b then so (same_bits e f (suc i)) ∷ [] else [])
up_to_named p e f i true is used = (same_named p e f (suc i) used (omega arith) (ltb-true (suc i) (clock_size p) is), tt)
up_to_named p e f i false is used = tt

decides_named : (p : MpiProgram) (e f i : ℕ) → e < length (events p) → f < length (events p) → IsUsed p e f → i < clock_size p → Each (Each (NamesMeaning p)) (bit_decides (clock_size p) e f i)
decides_named p e f i e_below f_below used below =
    let x = bit_named p e i e_below below in
    let y = bit_named p f i f_below below in
    let t = before_named p e f used in
    let others =
    each_append (NamesMeaning p) (differ_before e f i) (same_up_to (clock_size p) e f i) (differ_named p e f i used below)
    (up_to_named p e f i (nat_lt (suc i) (clock_size p)) refl used) in
    ((x, (t, others)), ((y, (t, others)), ((x, (t, others)), ((y, (t, others)), tt))))

pub order_clauses_named : (p : MpiProgram) → Each (Each (NamesMeaning p)) (order_clauses p)
order_clauses_named p =
    let size = clock_size p in
    each_flat_map (Each (NamesMeaning p)) (pair_clauses size) (used_pairs p)
    (each_used p (λ q. Each (Each (NamesMeaning p)) (pair_clauses size q)) (λ e f first below used.
    each_flat_map (Each (NamesMeaning p)) (λ i. bits_agree size e f i ++ bit_decides size e f i) (range_with_len 0 size)
    (each_range (λ i. Each (Each (NamesMeaning p)) (bits_agree size e f i ++ bit_decides size e f i)) 0 size (λ i _ i_below.
    let inside : i < clock_size p = omega (arith, i_below) in
    let e_inside : e < length (events p) = omega (arith, first, below) in
    each_append (Each (NamesMeaning p)) (bits_agree size e f i) (bit_decides size e f i)
    (agree_named p e f i (nat_lt (suc i) size) refl e_inside below used inside)
    (decides_named p e f i e_inside below used inside)))))
