-- Where an assignment tells the order of each used pair, it agrees with each statement on the
-- order.
use Rattle.std.proofs.Common.{◌≡◌, ◌≢◌, ℕ, ◌-◌, ◌<◌, Bool, true, false, not, ◌==◌, nat_lt, if◌then◌else◌, List, [], ◌∷◌, map, length, Some, None, refl, sym, ap, ◌∙◌, subst, arith}
use Rattle.std.specs.Prelude.{All}
use Rattle.std.specs.List.{flat_map, range_with_len}
use Rattle.std.proofs.lemmas.Bool.{and_parts, ltb-true}
use Rattle.std.proofs.lemmas.Bool.Decides.{nat_tests}
use Rattle.std.proofs.lemmas.List.Sums.{passes_at_first}
use Rattle.callorder.specs.ProgramRules.{IsProgram}
use Rattle.callorder.specs.Programs.{MpiProgram}
use Rattle.clauses.specs.Clauses.{TruthAssignment}
use Rattle.formula.specs.Facts.{RunEvent, issue_of, match_of, Fact, Meaning, fact, clock_bit, before, same_bits, Statement, is_true, is_false, is_earlier, is_same_event}
use Rattle.formula.specs.Families.{SymbolicClause, events, event_at, place_of_event, families_with_orders, last_families, families, said, first_families, sends_are_buffered_as_allowed, probes_see_messages}
use Rattle.formula.specs.Orders.{clock_size, used_pairs, clock_meanings, pair_meanings, order_meanings}
use Rattle.formula.specs.Numbering.{facts, meanings, is_same_meaning, variable_of, literal}
use Rattle.formula.specs.Laws.{holds_if_any, IsOrderTold, AgreesByClock, UsedPairsSuffice, AgreesByFact, FactsSuffice, EventsAreListed, StatedEventsAreListed}
use Rattle.formula.proofs.Elements.{each_parts, Each, each_from, each_mono, each_both, each_append, each_map, each_flat_map, each_at_test, all_from_each, each_of_all, position_within}
use Rattle.formula.proofs.Meanings.{same_meaning}
use Rattle.formula.proofs.Named.{families_of_order, families_of_end, fact_is_named, with_orders_named, sees_named, IsVariable, IsEvent, Named, NamesFact, Clauses, order_named, end_named, policy_names}
use Rattle.formula.proofs.Used.{is_pair, IsUsed, IsStated, orders_stated, used_where_first, used_where_second}

-- ---- the order of two events

not_smaller : (x y : ℕ) → y ≢ x → not (nat_lt y x) ≡ nat_lt x y
not_smaller x y differ = grind (arith, nat_tests)

not_itself : (x : ℕ) → false ≡ nat_lt x x
not_itself x = grind (arith, nat_tests)

same_place : (e f : ℕ) → nat_lt e f ≡ false → nat_lt f e ≡ false → e ≡ f
same_place e f h k = grind (arith, nat_tests)

earlier_agrees : (p : MpiProgram) (a : TruthAssignment) (clock : ℕ → ℕ) (e f : ℕ) (s t : Bool) → nat_lt e f ≡ s → nat_lt f e ≡ t → (e < f → IsOrderTold p a clock (e, f)) → (f < e → IsOrderTold p a clock (f, e)) → holds_if_any a (if s then Some (literal (variable_of p (before e f)) true) else if t then Some (literal (variable_of p (before f e)) false) else None) ≡ nat_lt (clock e) (clock f)
earlier_agrees p a clock e f true t h k first second = (first (ltb-true e f h)).1
earlier_agrees p a clock e f false true h k first second =
    let told = second (ltb-true f e k) in
    ap not told.1 ∙ not_smaller (clock e) (clock f) told.0
earlier_agrees p a clock e f false false h k first second =
    not_itself (clock e) ∙ ap (λ (z : ℕ). nat_lt (clock e) (clock z)) (same_place e f h k)

equal_places : (a b : ℕ) → (a == b) ≡ true → a ≡ b
equal_places a b h = grind (arith, nat_tests)

told_at : (p : MpiProgram) (a : TruthAssignment) (clock : ℕ → ℕ) → Each (IsOrderTold p a clock) (used_pairs p) → (e f : ℕ) → IsUsed p e f → IsOrderTold p a clock (e, f)
told_at p a clock told e f used =
    let found = each_at_test (IsOrderTold p a clock) (is_pair e f) (used_pairs p) told used in
    let parts = and_parts (e == found.0.0) (f == found.0.1) found.1 in
    subst (λ (z : ℕ). IsOrderTold p a clock (z, f)) (sym (equal_places e found.0.0 parts.0))
    (subst (λ (z : ℕ). IsOrderTold p a clock (found.0.0, z)) (sym (equal_places f found.0.1 parts.1)) found.2)

-- ---- statements

fact_agrees : (p : MpiProgram) (a : TruthAssignment) (clock : ℕ → ℕ) (x : Statement) → NamesFact p x → AgreesByClock p a clock x
fact_agrees p a clock (is_true y) h = tt
fact_agrees p a clock (is_false y) h = tt
fact_agrees p a clock (is_earlier e f) h = absurd h

stated_agrees : (p : MpiProgram) (a : TruthAssignment) (clock : ℕ → ℕ) → Each (IsOrderTold p a clock) (used_pairs p) → (x : Statement) → Named p x → IsStated p x → AgreesByClock p a clock x
stated_agrees p a clock told (is_true y) h k = tt
stated_agrees p a clock told (is_false y) h k = tt
stated_agrees p a clock told (is_earlier e f) h k =
    earlier_agrees p a clock (place_of_event p e) (place_of_event p f) (nat_lt (place_of_event p e) (place_of_event p f)) (nat_lt (place_of_event p f) (place_of_event p e)) refl refl
    (λ first. told_at p a clock told (place_of_event p e) (place_of_event p f) (used_where_first p e f h.1 k first))
    (λ first. told_at p a clock told (place_of_event p f) (place_of_event p e) (used_where_second p e f h.0 k first))

-- ---- families

abbrev AllAgree : MpiProgram → TruthAssignment → (ℕ → ℕ) → List SymbolicClause → Type 0
AllAgree p a clock clauses = All (All (AgreesByClock p a clock)) clauses

facts_agree : (p : MpiProgram) (a : TruthAssignment) (clock : ℕ → ℕ) (clauses : List SymbolicClause) → Clauses (NamesFact p) clauses → AllAgree p a clock clauses
facts_agree p a clock clauses h =
    let P = AgreesByClock p a clock in
    all_from_each (All P) clauses
    (each_mono (Each (NamesFact p)) (All P) (λ clause k. all_from_each P clause (each_mono (NamesFact p) P (fact_agrees p a clock) clause k)) clauses h)

clause_agrees : (p : MpiProgram) (a : TruthAssignment) (clock : ℕ → ℕ) → Each (IsOrderTold p a clock) (used_pairs p) → (clause : SymbolicClause) → Each (Named p) clause → Each (IsStated p) clause → All (AgreesByClock p a clock) clause
clause_agrees p a clock told clause h k =
    all_from_each (AgreesByClock p a clock) clause
    (each_mono (λ x. Named p x × IsStated p x) (AgreesByClock p a clock) (λ x both. stated_agrees p a clock told x both.0 both.1) clause
    (each_both (Named p) (IsStated p) clause h k))

clauses_agree : (p : MpiProgram) (a : TruthAssignment) (clock : ℕ → ℕ) → Each (IsOrderTold p a clock) (used_pairs p) → (clauses : List SymbolicClause) → Clauses (Named p) clauses → Clauses (IsStated p) clauses → AllAgree p a clock clauses
clauses_agree p a clock told clauses h k =
    all_from_each (All (AgreesByClock p a clock)) clauses
    (each_mono (λ c. Each (Named p) c × Each (IsStated p) c) (All (AgreesByClock p a clock)) (λ c both. clause_agrees p a clock told c both.0 both.1) clauses
    (each_both (Each (Named p)) (Each (IsStated p)) clauses h k))

pub used_pairs_suffice : UsedPairsSuffice
used_pairs_suffice p a clock is told =
    let A = AllAgree p a clock in
    let policy = sends_are_buffered_as_allowed p in
    let sees = probes_see_messages p in
    let each = each_of_all (IsOrderTold p a clock) (used_pairs p) told in
    let with_orders : Each A (families_with_orders p) =
    each_mono (λ c. Clauses (Named p) c × Clauses (IsStated p) c) A (λ c both. clauses_agree p a clock each c both.0 both.1) (families_with_orders p)
    (each_both (Clauses (Named p)) (Clauses (IsStated p)) (families_with_orders p) (with_orders_named p is) (orders_stated p)) in
    let orders = each_parts A (families_of_order p) (sees ∷ []) with_orders in
    let ends : Each A (families_of_end p) = each_mono (Clauses (NamesFact p)) A (facts_agree p a clock) (families_of_end p) (end_named p is) in
    all_from_each A (families p)
    (each_append A (map (said p) first_families) (map (said p) last_families) (each_append A (families_of_order p) (families_of_end p) orders.0 ends)
    (facts_agree p a clock policy (policy_names p), orders.1))

-- ---- what holds of each statement that names facts and events of the program

all_by : (P Q : Statement → Type 0) → ((x : Statement) → P x → Q x) → (clauses : List SymbolicClause) → Clauses P clauses → All (All Q) clauses
all_by P Q f clauses h = all_from_each (All Q) clauses (each_mono (Each P) (All Q) (λ clause k. all_from_each Q clause (each_mono P Q f clause k)) clauses h)

in_families : (p : MpiProgram) (Q : Statement → Type 0) → IsProgram p → ((x : Statement) → Named p x → Q x) → All (All (All Q)) (families p)
in_families p Q is f =
    let A : List SymbolicClause → Type 0 = All (All Q) in
    let policy = sends_are_buffered_as_allowed p in
    let by_fact : (x : Statement) → NamesFact p x → Q x = λ x h. f x (fact_is_named p x h) in
    all_from_each A (families p)
    (each_append A (map (said p) first_families) (map (said p) last_families)
    (each_append A (families_of_order p) (families_of_end p) (each_mono (Clauses (Named p)) A (all_by (Named p) Q f) (families_of_order p) (order_named p is))
    (each_mono (Clauses (NamesFact p)) A (all_by (NamesFact p) Q by_fact) (families_of_end p) (end_named p is)))
    (all_by (NamesFact p) Q by_fact policy (policy_names p), (all_by (Named p) Q f (probes_see_messages p) (sees_named p), tt)))

-- ---- events of statements

same_event : (e f : RunEvent) → is_same_event e f ≡ true → e ≡ f
same_event (issue_of c) (issue_of d) h = ap issue_of (equal_places c d h)
same_event (match_of c) (match_of d) h = ap match_of (equal_places c d h)
same_event (issue_of c) (match_of d) h = absurd cc
same_event (match_of c) (issue_of d) h = absurd cc

event_listed : (p : MpiProgram) (e : RunEvent) → IsEvent p e → event_at p (place_of_event p e) ≡ e
event_listed p e h =
    sym (same_event e (event_at p (place_of_event p e)) (passes_at_first (is_same_event e) (events p) (issue_of 0) (position_within (is_same_event e) (events p) h)))

named_listed : (p : MpiProgram) (x : Statement) → Named p x → EventsAreListed p x
named_listed p (is_true y) h = tt
named_listed p (is_false y) h = tt
named_listed p (is_earlier e f) h = (event_listed p e h.0, event_listed p f h.1)

pub stated_events_are_listed : StatedEventsAreListed
stated_events_are_listed p is = in_families p (EventsAreListed p) is (named_listed p)

-- ---- facts of statements

-- what the assignment tells of a meaning that is a fact
abbrev TellsFact : MpiProgram → TruthAssignment → (Fact → Bool) → Meaning → Type 0
TellsFact p a has (fact x) = a (variable_of p (fact x)) ≡ has x
TellsFact p a has (clock_bit e i) = Unit {0}
TellsFact p a has (before e f) = Unit {0}
TellsFact p a has (same_bits e f i) = Unit {0}

meanings_tell : (p : MpiProgram) (a : TruthAssignment) (has : Fact → Bool) → Each (λ x. a (variable_of p (fact x)) ≡ has x) (facts p) → Each (TellsFact p a has) (meanings p)
meanings_tell p a has h =
    let T : Meaning → Type 0 = TellsFact p a has in
    let size = clock_size p in
    let most = length (events p) in
    each_append T (map fact (facts p)) (order_meanings p) (each_map T fact (facts p) h)
    (each_append T (clock_meanings size most) (flat_map (pair_meanings size) (used_pairs p))
    (each_flat_map T (λ e. map (clock_bit e) (range_with_len 0 size)) (range_with_len 0 most)
    (each_from (λ e. Each T (map (clock_bit e) (range_with_len 0 size))) (λ e.
    each_map T (clock_bit e) (range_with_len 0 size) (each_from (λ i. T (clock_bit e i)) (λ i. tt) (range_with_len 0 size))) (range_with_len 0 most)))
    (each_flat_map T (pair_meanings size) (used_pairs p)
    (each_from (λ q. Each T (pair_meanings size q)) (λ q. (
      tt,
      each_map T (same_bits q.0 q.1) (range_with_len 1 (size - 1)) (each_from (λ i. T (same_bits q.0 q.1 i)) (λ i. tt) (range_with_len 1 (size - 1))),
    )) (used_pairs p))))

fact_told : (p : MpiProgram) (a : TruthAssignment) (has : Fact → Bool) → Each (TellsFact p a has) (meanings p) → (x : Fact) → IsVariable p (fact x) → a (variable_of p (fact x)) ≡ has x
fact_told p a has tells x h =
    let found = each_at_test (TellsFact p a has) (is_same_meaning (fact x)) (meanings p) tells h in
    subst (TellsFact p a has) (sym (same_meaning (fact x) found.0 found.1)) found.2

named_told : (p : MpiProgram) (a : TruthAssignment) (has : Fact → Bool) → Each (TellsFact p a has) (meanings p) → (x : Statement) → Named p x → AgreesByFact p a has x
named_told p a has tells (is_true y) h = fact_told p a has tells y h
named_told p a has tells (is_false y) h = ap not (fact_told p a has tells y h)
named_told p a has tells (is_earlier e f) h = tt

pub facts_suffice : FactsSuffice
facts_suffice p a has is told =
    let tells = meanings_tell p a has (each_of_all (λ x. a (variable_of p (fact x)) ≡ has x) (facts p) told) in
    in_families p (AgreesByFact p a has) is (named_told p a has tells)
