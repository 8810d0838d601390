-- Each clause of a program's formula names variables of the formula alone.
use Rattle.std.proofs.Common.{◌≡◌, ℕ, ◌<◌, ◌≤◌, Bool, true, false, nat_lt, if◌then◌else◌, List, [], ◌∷◌, ◌++◌, map, length, Option, Some, None, refl, arith}
use Rattle.std.specs.Prelude.{nat_le}
use Rattle.std.specs.List.{filter_map, flat_map, cons_option, fold, list_all}
use Rattle.std.proofs.lemmas.Bool.{ltb-true}
use Rattle.std.proofs.lemmas.Bool.Decides.{nat_tests}
use Rattle.callorder.specs.ProgramRules.{IsProgram}
use Rattle.callorder.specs.Programs.{MpiProgram}
use Rattle.clauses.specs.Clauses.{Literal, is_within}
use Rattle.formula.specs.Facts.{Meaning, fact, before, Statement, is_true, is_false, is_earlier}
use Rattle.formula.specs.Families.{SymbolicClause, families_with_orders, last_families, place_of_event, said, first_families, sends_are_buffered_as_allowed, probes_see_messages}
use Rattle.formula.specs.Orders.{SignedMeaning, order_clauses}
use Rattle.formula.specs.Numbering.{meanings, is_same_meaning, variable_of, literal, literal_of, insert_literal, comes_first, sorted, has_both_signs, in_normal_form, normal_form, numbered, literal_of_signed, numbered_order}
use Rattle.formula.specs.Laws.{ClausesAreWithin}
use Rattle.formula.proofs.Named.{families_of_order, families_of_end, IsVariable, Named, NamesFact, Clauses, with_orders_named, end_named, policy_names}
use Rattle.formula.proofs.Used.{IsStated, orders_stated, used_where_first, used_where_second, before_named, NamesMeaning, order_clauses_named}
use Rattle.formula.proofs.Elements.{each_parts, and_both, all_append, all_flat_map, each_mono, each_both, Each, each_append, position_within}

-- ---- what is named has a variable within the formula

abbrev WithinIfAny : ℕ → Option Literal → Type 0
WithinIfAny most None = Unit {0}
WithinIfAny most (Some l) = l.variable ≤ most

variable_within : (p : MpiProgram) (m : Meaning) → IsVariable p m → variable_of p m ≤ length (meanings p)
variable_within p m h = let below = position_within (is_same_meaning m) (meanings p) h in omega (arith, below)

-- of two different events one order has a variable
abbrev HasOrder : MpiProgram → ℕ → ℕ → Type 0
HasOrder p e f = (e < f → IsVariable p (before e f)) × (f < e → IsVariable p (before f e))

earlier_within : (p : MpiProgram) (e f : ℕ) (s t : Bool) → HasOrder p e f → nat_lt e f ≡ s → nat_lt f e ≡ t → WithinIfAny (length (meanings p)) (if s then Some (literal (variable_of p (before e f)) true) else if t then Some (literal (variable_of p (before f e)) false) else None)
earlier_within p e f true t has x y = variable_within p (before e f) (has.0 (ltb-true e f x))
earlier_within p e f false true has x y = variable_within p (before f e) (has.1 (ltb-true f e y))
earlier_within p e f false false has x y = tt

-- the formula has the variable of the statement, if it has one
abbrev HasVariable : MpiProgram → Statement → Type 0
HasVariable p (is_true a) = IsVariable p (fact a)
HasVariable p (is_false a) = IsVariable p (fact a)
HasVariable p (is_earlier e f) = HasOrder p (place_of_event p e) (place_of_event p f)

statement_within : (p : MpiProgram) (x : Statement) → HasVariable p x → WithinIfAny (length (meanings p)) (literal_of p x)
statement_within p (is_true a) h = variable_within p (fact a) h
statement_within p (is_false a) h = variable_within p (fact a) h
statement_within p (is_earlier e f) h =
    earlier_within p (place_of_event p e) (place_of_event p f) (nat_lt (place_of_event p e) (place_of_event p f)) (nat_lt (place_of_event p f) (place_of_event p e)) h refl refl

abbrev Within : ℕ → List Literal → Type 0
Within most = Each (λ l. l.variable ≤ most)

put_step : (most : ℕ) (l m : Literal) (clause : List Literal) (s t : Bool) → l.variable ≤ most → m.variable ≤ most → Within most clause → Within most (insert_literal l clause) → Within most (if s then m ∷ insert_literal l clause else if t then l ∷ m ∷ clause else m ∷ clause)
put_step most l m clause true t a b h k = (b, k)
put_step most l m clause false true a b h k = (a, (b, h))
put_step most l m clause false false a b h k = (b, h)

put_within : (most : ℕ) (l : Literal) (clause : List Literal) → l.variable ≤ most → Within most clause → Within most (insert_literal l clause)
put_within most l [] a h = (a, tt)
put_within most l (m ∷ clause) a h = put_step most l m clause (comes_first m l) (comes_first l m) a h.0 h.1 (put_within most l clause a h.1)

fold_within : (most : ℕ) (literals acc : List Literal) → Within most literals → Within most acc → Within most (fold (λ clause l. insert_literal l clause) acc literals)
fold_within most [] acc h k = k
fold_within most (l ∷ literals) acc h k = fold_within most literals (insert_literal l acc) h.1 (put_within most l acc h.0 k)

option_within : (most : ℕ) (o : Option Literal) (literals : List Literal) → WithinIfAny most o → Within most literals → Within most (cons_option o literals)
option_within most None literals h k = k
option_within most (Some l) literals h k = (h, k)

literals_within : (p : MpiProgram) (clause : SymbolicClause) → Each (HasVariable p) clause → Within (length (meanings p)) (filter_map (literal_of p) clause)
literals_within p [] h = tt
literals_within p (x ∷ clause) h =
    option_within (length (meanings p)) (literal_of p x) (filter_map (literal_of p) clause) (statement_within p x h.0) (literals_within p clause h.1)

at_most : (v most : ℕ) → v ≤ most → nat_le v most ≡ true
at_most v most h = grind (arith, nat_tests)

test_within : (most : ℕ) (clause : List Literal) → Within most clause → is_within most clause ≡ true
test_within most [] h = refl
test_within most (l ∷ clause) h = and_both (nat_le l.variable most) (is_within most clause) (at_most l.variable most h.0) (test_within most clause h.1)

unless_within : (most : ℕ) (clause : List Literal) (b : Bool) → Within most clause → list_all (is_within most) (if b then [] else clause ∷ []) ≡ true
unless_within most clause true h = refl
unless_within most clause false h = and_both (is_within most clause) true (test_within most clause h) refl

in_normal_form_within : (most : ℕ) (literals : List Literal) → Within most literals → list_all (is_within most) (in_normal_form literals) ≡ true
in_normal_form_within most literals h = unless_within most (sorted literals) (has_both_signs (sorted literals)) (fold_within most literals [] h tt)

normal_form_within : (p : MpiProgram) (clause : SymbolicClause) → Each (HasVariable p) clause → list_all (is_within (length (meanings p))) (normal_form p clause) ≡ true
normal_form_within p clause h = in_normal_form_within (length (meanings p)) (filter_map (literal_of p) clause) (literals_within p clause h)

numbered_within : (p : MpiProgram) (clauses : List SymbolicClause) → Clauses (HasVariable p) clauses → list_all (is_within (length (meanings p))) (numbered p clauses) ≡ true
numbered_within p clauses h =
    all_flat_map (is_within (length (meanings p))) (normal_form p) clauses
    (each_mono (Each (HasVariable p)) (λ clause. list_all (is_within (length (meanings p))) (normal_form p clause) ≡ true) (normal_form_within p) clauses h)

-- ---- the families

fact_has : (p : MpiProgram) (x : Statement) → NamesFact p x → HasVariable p x
fact_has p (is_true a) h = h
fact_has p (is_false a) h = h
fact_has p (is_earlier e f) h = absurd h

facts_have : (p : MpiProgram) (clauses : List SymbolicClause) → Clauses (NamesFact p) clauses → Clauses (HasVariable p) clauses
facts_have p = each_mono (Each (NamesFact p)) (Each (HasVariable p)) (each_mono (NamesFact p) (HasVariable p) (fact_has p))

stated_has : (p : MpiProgram) (x : Statement) → Named p x → IsStated p x → HasVariable p x
stated_has p (is_true a) h k = h
stated_has p (is_false a) h k = h
stated_has p (is_earlier e f) h k = (
  λ first. before_named p (place_of_event p e) (place_of_event p f) (used_where_first p e f h.1 k first),
  λ first. before_named p (place_of_event p f) (place_of_event p e) (used_where_second p e f h.0 k first),
)

clause_has : (p : MpiProgram) (clause : SymbolicClause) → Each (Named p) clause → Each (IsStated p) clause → Each (HasVariable p) clause
clause_has p clause h k =
    each_mono (λ x. Named p x × IsStated p x) (HasVariable p) (λ x both. stated_has p x both.0 both.1) clause (each_both (Named p) (IsStated p) clause h k)

clauses_have : (p : MpiProgram) (clauses : List SymbolicClause) → Clauses (Named p) clauses → Clauses (IsStated p) clauses → Clauses (HasVariable p) clauses
clauses_have p clauses h k =
    each_mono (λ clause. Each (Named p) clause × Each (IsStated p) clause) (Each (HasVariable p)) (λ clause both. clause_has p clause both.0 both.1) clauses
    (each_both (Each (Named p)) (Each (IsStated p)) clauses h k)

orders_have : (p : MpiProgram) → IsProgram p → Each (Clauses (HasVariable p)) (families_with_orders p)
orders_have p is =
    each_mono (λ clauses. Clauses (Named p) clauses × Clauses (IsStated p) clauses) (Clauses (HasVariable p)) (λ clauses both. clauses_have p clauses both.0 both.1) (families_with_orders p)
    (each_both (Clauses (Named p)) (Clauses (IsStated p)) (families_with_orders p) (with_orders_named p is) (orders_stated p))

-- ---- the order of events

signed_within : (p : MpiProgram) (clause : List SignedMeaning) → Each (NamesMeaning p) clause → Within (length (meanings p)) (map (literal_of_signed p) clause)
signed_within p [] h = tt
signed_within p (x ∷ clause) h = (variable_within p x.meaning h.0, signed_within p clause h.1)

order_within : (p : MpiProgram) → list_all (is_within (length (meanings p))) (numbered_order p) ≡ true
order_within p =
    let most = length (meanings p) in
    all_flat_map (is_within most) (λ clause. in_normal_form (map (literal_of_signed p) clause)) (order_clauses p)
    (each_mono (Each (NamesMeaning p)) (λ clause. list_all (is_within most) (in_normal_form (map (literal_of_signed p) clause)) ≡ true)
    (λ clause h. in_normal_form_within most (map (literal_of_signed p) clause) (signed_within p clause h)) (order_clauses p) (order_clauses_named p))

pub clauses_are_within : ClausesAreWithin
clauses_are_within p is =
    let most = length (meanings p) in
    let test : List Literal → Bool = is_within most in
    let others = map (said p) first_families in
    let policy = sends_are_buffered_as_allowed p in
    let last = map (said p) last_families in
    let have = each_parts (Clauses (HasVariable p)) (families_of_order p) (probes_see_messages p ∷ []) (orders_have p is) in
    all_append test (flat_map (numbered p) others ++ numbered_order p) (flat_map (numbered p) last)
    (all_append test (flat_map (numbered p) others) (numbered_order p)
    (all_flat_map test (numbered p) others
    (each_mono (Clauses (HasVariable p)) (λ clauses. list_all test (numbered p clauses) ≡ true) (numbered_within p) others
    (each_append (Clauses (HasVariable p)) (families_of_order p) (families_of_end p) have.0
    (each_mono (Clauses (NamesFact p)) (Clauses (HasVariable p)) (facts_have p) (families_of_end p) (end_named p is)))))
    (order_within p))
    (all_flat_map test (numbered p) last
    (each_mono (Clauses (HasVariable p)) (λ clauses. list_all test (numbered p clauses) ≡ true) (numbered_within p) last
    (facts_have p policy (policy_names p), have.1)))
