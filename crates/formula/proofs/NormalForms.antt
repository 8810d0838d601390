-- The normal form of a clause keeps its meaning, and rises.
use Rattle.std.proofs.Common.{◌≡◌, ℕ, suc, ◌+◌, ◌<◌, Bool, true, false, not, ◌&&◌, ◌||◌, ◌==◌, nat_lt, if◌then◌else◌, List, [], ◌∷◌, ◌++◌, map, Option, Some, None, refl, sym, ap, ◌∙◌, arith}
use Rattle.std.specs.Prelude.{All}
use Rattle.std.specs.List.{filter_map, flat_map, cons_option, fold, list_any, list_all}
use Rattle.std.proofs.lemmas.Bool.Decides.{nat_tests}
use Rattle.std.proofs.lemmas.List.Folds.{list_all-append}
use Rattle.callorder.specs.Programs.{MpiProgram}
use Rattle.clauses.specs.Clauses.{Literal, TruthAssignment, signed, makes_true, rises_above, rises, satisfies_clause, satisfies}
use Rattle.formula.specs.Facts.{Statement, is_true, is_false, is_earlier}
use Rattle.formula.specs.Families.{SymbolicClause, last_families, place_of_event, said, first_families}
use Rattle.formula.specs.Orders.{SignedMeaning, order_clauses}
use Rattle.formula.specs.Numbering.{comes_first, insert_literal, sorted, has_both_signs, literal_of, in_normal_form, normal_form, numbered, literal_of_signed, numbered_order}
use Rattle.formula.proofs.Elements.{and_both, all_append, all_flat_map, each_from}
use Rattle.formula.specs.Laws.{holds_if_any, Agrees, NumberedClausesMeanSymbolic, ClausesRise}

all_head : {X : Type 0} (P : X → Type 0) (x : X) (xs : List X) → All P (x ∷ xs) → P x
all_head P x xs h = h 0 x (omega arith)

all_tail : {X : Type 0} (P : X → Type 0) (x : X) (xs : List X) → All P (x ∷ xs) → All P xs
all_tail P x xs h k d below = h (suc k) d (omega (arith, below))

-- two literals of which neither comes first are one
same_parts : (a : TruthAssignment) (v w : ℕ) (s t : Bool) → (nat_lt v w || (v == w && s && not t)) ≡ false → (nat_lt w v || (w == v && t && not s)) ≡ false → signed s (a v) ≡ signed t (a w)
same_parts a v w true true e f = let same : v ≡ w = grind (arith, nat_tests) in ap a same
same_parts a v w false false e f = let same : v ≡ w = grind (arith, nat_tests) in ap (λ z. not (a z)) same
same_parts a v w true false e f = absurd (grind (arith, nat_tests))
same_parts a v w false true e f = absurd (grind (arith, nat_tests))

pub or_swap : (a b c : Bool) → (a || (b || c)) ≡ (b || (a || c))
or_swap true true c = refl
or_swap true false c = refl
or_swap false true c = refl
or_swap false false c = refl

or_same : (a b c : Bool) → a ≡ b → (b || c) ≡ (a || (b || c))
or_same true true c e = refl
or_same false false c e = refl
or_same true false c e = absurd cc
or_same false true c e = absurd cc

put_step : (a : TruthAssignment) (l m : Literal) (clause : List Literal) (s t : Bool) → comes_first m l ≡ s → comes_first l m ≡ t → satisfies_clause a (insert_literal l clause) ≡ (makes_true a l || satisfies_clause a clause) → satisfies_clause a (if s then m ∷ insert_literal l clause else if t then l ∷ m ∷ clause else m ∷ clause) ≡ (makes_true a l || (makes_true a m || satisfies_clause a clause))
put_step a l m clause true t e f rest = ap (λ z. makes_true a m || z) rest ∙ or_swap (makes_true a m) (makes_true a l) (satisfies_clause a clause)
put_step a l m clause false true e f rest = refl
put_step a l m clause false false e f rest = or_same (makes_true a l) (makes_true a m) (satisfies_clause a clause) (same_parts a l.variable m.variable l.positive m.positive f e)

put_means : (a : TruthAssignment) (l : Literal) (clause : List Literal) → satisfies_clause a (insert_literal l clause) ≡ (makes_true a l || satisfies_clause a clause)
put_means a l [] = refl
put_means a l (m ∷ clause) = put_step a l m clause (comes_first m l) (comes_first l m) refl refl (put_means a l clause)

or_assoc : (a b c : Bool) → ((a || b) || c) ≡ (b || (a || c))
or_assoc true true c = refl
or_assoc true false c = refl
or_assoc false true c = refl
or_assoc false false c = refl

fold_means : (a : TruthAssignment) (literals acc : List Literal) → satisfies_clause a (fold (λ clause l. insert_literal l clause) acc literals) ≡ (satisfies_clause a acc || satisfies_clause a literals)
fold_means a [] acc = or_false (satisfies_clause a acc)
  where
    or_false : (b : Bool) → b ≡ (b || false)
    or_false true = refl
    or_false false = refl
fold_means a (l ∷ literals) acc =
    fold_means a literals (insert_literal l acc) ∙ ap (λ z. z || satisfies_clause a literals) (put_means a l acc) ∙ or_assoc (makes_true a l) (satisfies_clause a acc) (satisfies_clause a literals)

-- the literal comes before the first of the clause, and each before the next
Above : Literal → List Literal → Type 0
Above l [] = Unit {0}
Above l (m ∷ clause) = comes_first l m ≡ true

InOrder : List Literal → Type 0
InOrder [] = Unit {0}
InOrder (l ∷ clause) = Above l clause × InOrder clause

above_step : (x l m : Literal) (clause : List Literal) (s t : Bool) → comes_first x l ≡ true → comes_first x m ≡ true → Above x (if s then m ∷ insert_literal l clause else if t then l ∷ m ∷ clause else m ∷ clause)
unfolding Above
above_step x l m clause true t e f = f
above_step x l m clause false true e f = e
above_step x l m clause false false e f = f

above_put : (x l : Literal) (clause : List Literal) → comes_first x l ≡ true → Above x clause → Above x (insert_literal l clause)
unfolding Above
above_put x l [] e h = e
above_put x l (m ∷ clause) e h = above_step x l m clause (comes_first m l) (comes_first l m) e h

order_step : (l m : Literal) (clause : List Literal) (s t : Bool) → comes_first m l ≡ s → comes_first l m ≡ t → Above m clause → InOrder clause → InOrder (insert_literal l clause) → InOrder (if s then m ∷ insert_literal l clause else if t then l ∷ m ∷ clause else m ∷ clause)
unfolding InOrder Above
order_step l m clause true t e f above order rest = (above_put m l clause e above, rest)
order_step l m clause false true e f above order rest = (f, (above, order))
order_step l m clause false false e f above order rest = (above, order)

put_order : (l : Literal) (clause : List Literal) → InOrder clause → InOrder (insert_literal l clause)
unfolding InOrder Above
put_order l [] h = (tt, tt)
put_order l (m ∷ clause) h = order_step l m clause (comes_first m l) (comes_first l m) refl refl h.0 h.1 (put_order l clause h.1)

fold_order : (literals acc : List Literal) → InOrder acc → InOrder (fold (λ clause l. insert_literal l clause) acc literals)
fold_order [] acc h = h
fold_order (l ∷ literals) acc h = fold_order literals (insert_literal l acc) (put_order l acc h)

-- of two neighbours of one variable the first is positive and the second is not
signs : (a : TruthAssignment) (v w : ℕ) (s t rest : Bool) → (nat_lt v w || (v == w && s && not t)) ≡ true → (v == w) ≡ true → (signed s (a v) || (signed t (a w) || rest)) ≡ true
signs a v w true false rest e f =
    let same : v ≡ w = grind (arith, nat_tests) in
    rw same (either (a w) rest)
  where
    either : (b rest : Bool) → (b || (not b || rest)) ≡ true
    either true rest = refl
    either false rest = refl
signs a v w true true rest e f = absurd (grind (arith, nat_tests))
signs a v w false t rest e f = absurd (grind (arith, nat_tests))

both_step : (a : TruthAssignment) (l m : Literal) (clause : List Literal) (s : Bool) → (l.variable == m.variable) ≡ s → comes_first l m ≡ true → (s || has_both_signs (m ∷ clause)) ≡ true → (has_both_signs (m ∷ clause) ≡ true → satisfies_clause a (m ∷ clause) ≡ true) → satisfies_clause a (l ∷ (m ∷ clause)) ≡ true
both_step a l m clause true e first h rest = signs a l.variable m.variable l.positive m.positive (satisfies_clause a clause) first e
both_step a l m clause false e first h rest = or_right (makes_true a l) _ (rest h)
  where
    or_right : (b c : Bool) → c ≡ true → (b || c) ≡ true
    or_right true c e = refl
    or_right false c e = e

both_true : (a : TruthAssignment) (clause : List Literal) → InOrder clause → has_both_signs clause ≡ true → satisfies_clause a clause ≡ true
unfolding InOrder Above
both_true a [] order h = absurd cc
both_true a (l ∷ []) order h = absurd cc
both_true a (l ∷ (m ∷ clause)) order h = both_step a l m clause (l.variable == m.variable) refl order.0 h (both_true a (m ∷ clause) order.1)

any_step : (a : TruthAssignment) (o : Option Literal) (literals : List Literal) → satisfies_clause a (cons_option o literals) ≡ (holds_if_any a o || satisfies_clause a literals)
any_step a None literals = refl
any_step a (Some x) literals = refl

literals_mean : (p : MpiProgram) (a : TruthAssignment) (is_right : Statement → Bool) (clause : SymbolicClause) → All (Agrees p a is_right) clause → satisfies_clause a (filter_map (literal_of p) clause) ≡ list_any is_right clause
literals_mean p a is_right [] same = refl
literals_mean p a is_right (x ∷ clause) same =
    any_step a (literal_of p x) (filter_map (literal_of p) clause) ∙ ap (λ z. z || satisfies_clause a (filter_map (literal_of p) clause)) (all_head (Agrees p a is_right) x clause same) ∙ ap (λ z. is_right x || z) (literals_mean p a is_right clause (all_tail (Agrees p a is_right) x clause same))

unless_step : (a : TruthAssignment) (clause : List Literal) (b : Bool) → has_both_signs clause ≡ b → InOrder clause → satisfies a (if b then [] else clause ∷ []) ≡ satisfies_clause a clause
unless_step a clause true e order = sym (both_true a clause order e)
unless_step a clause false e order = and_true (satisfies_clause a clause)
  where
    and_true : (b : Bool) → (b && true) ≡ b
    and_true true = refl
    and_true false = refl

sorted_in_order : (literals : List Literal) → InOrder (sorted literals)
unfolding InOrder
sorted_in_order literals = fold_order literals [] tt

pub in_normal_form_means : (a : TruthAssignment) (literals : List Literal) → satisfies a (in_normal_form literals) ≡ satisfies_clause a literals
in_normal_form_means a literals =
    unless_step a (sorted literals) (has_both_signs (sorted literals)) refl (sorted_in_order literals) ∙ fold_means a literals []

normal_form_means : (p : MpiProgram) (a : TruthAssignment) (is_right : Statement → Bool) (clause : SymbolicClause) → All (Agrees p a is_right) clause → satisfies a (normal_form p clause) ≡ list_any is_right clause
normal_form_means p a is_right clause same = in_normal_form_means a (filter_map (literal_of p) clause) ∙ literals_mean p a is_right clause same

pub numbered_clauses_mean_symbolic : NumberedClausesMeanSymbolic
numbered_clauses_mean_symbolic p a is_right [] same = refl
numbered_clauses_mean_symbolic p a is_right (clause ∷ clauses) same =
    list_all-append (satisfies_clause a) (normal_form p clause) (numbered p clauses) ∙ ap (λ z. z && satisfies a (numbered p clauses)) (normal_form_means p a is_right clause (all_head (All (Agrees p a is_right)) clause clauses same)) ∙ ap (λ z. list_any is_right clause && z) (numbered_clauses_mean_symbolic p a is_right clauses (all_tail (All (Agrees p a is_right)) clause clauses same))

-- ---- variables rise

-- no variable is 0
Numbered : List Literal → Type 0
Numbered [] = Unit {0}
Numbered (l ∷ clause) = (0 < l.variable) × Numbered clause

put_numbered_step : (l m : Literal) (clause : List Literal) (s t : Bool) → 0 < l.variable → 0 < m.variable → Numbered clause → Numbered (insert_literal l clause) → Numbered (if s then m ∷ insert_literal l clause else if t then l ∷ m ∷ clause else m ∷ clause)
unfolding Numbered
put_numbered_step l m clause true t first other rest more = (other, more)
put_numbered_step l m clause false true first other rest more = (first, (other, rest))
put_numbered_step l m clause false false first other rest more = (other, rest)

put_numbered : (l : Literal) (clause : List Literal) → 0 < l.variable → Numbered clause → Numbered (insert_literal l clause)
unfolding Numbered
put_numbered l [] first h = (first, tt)
put_numbered l (m ∷ clause) first h =
    put_numbered_step l m clause (comes_first m l) (comes_first l m) first h.0 h.1 (put_numbered l clause first h.1)

fold_numbered : (literals acc : List Literal) → Numbered literals → Numbered acc → Numbered (fold (λ clause l. insert_literal l clause) acc literals)
unfolding Numbered
fold_numbered [] acc h k = k
fold_numbered (l ∷ literals) acc h k = fold_numbered literals (insert_literal l acc) h.1 (put_numbered l acc h.0 k)

-- where there is a literal, its variable isn't 0
NumberedIfAny : Option Literal → Type 0
NumberedIfAny None = Unit {0}
NumberedIfAny (Some l) = 0 < l.variable

one_more : (n : ℕ) → 0 < n + 1
one_more n = omega arith

earlier_step : (p : MpiProgram) (v w : ℕ) (s t : Bool) → NumberedIfAny (if s then Some (record { variable = v + 1; positive = true }) else if t then Some (record { variable = w + 1; positive = false }) else None)
unfolding NumberedIfAny
earlier_step p v w true t = one_more v
earlier_step p v w false true = one_more w
earlier_step p v w false false = tt

literal_numbered : (p : MpiProgram) (x : Statement) → NumberedIfAny (literal_of p x)
unfolding NumberedIfAny
literal_numbered p (is_true a) = one_more _
literal_numbered p (is_false a) = one_more _
literal_numbered p (is_earlier e f) = earlier_step p _ _ (nat_lt (place_of_event p e) (place_of_event p f)) (nat_lt (place_of_event p f) (place_of_event p e))

option_numbered : (o : Option Literal) (literals : List Literal) → NumberedIfAny o → Numbered literals → Numbered (cons_option o literals)
unfolding NumberedIfAny Numbered
option_numbered None literals h k = k
option_numbered (Some l) literals h k = (h, k)

literals_numbered : (p : MpiProgram) (clause : SymbolicClause) → Numbered (filter_map (literal_of p) clause)
unfolding Numbered
literals_numbered p [] = tt
literals_numbered p (x ∷ clause) = option_numbered (literal_of p x) (filter_map (literal_of p) clause) (literal_numbered p x) (literals_numbered p clause)

first_smaller : (v w : ℕ) (s t : Bool) → (nat_lt v w || (v == w && s && not t)) ≡ true → (v == w) ≡ false → nat_lt v w ≡ true
first_smaller v w s t e f = or_first (nat_lt v w) (v == w) s (not t) e f
  where
    or_first : (b c d g : Bool) → (b || (c && d && g)) ≡ true → c ≡ false → b ≡ true
    or_first true c d g e f = refl
    or_first false true d g e f = absurd cc
    or_first false false d g e f = e

or_left_false : (b c : Bool) → (b || c) ≡ false → b ≡ false
or_left_false true c e = absurd cc
or_left_false false c e = refl

or_right_false : (b c : Bool) → (b || c) ≡ false → c ≡ false
or_right_false true c e = absurd cc
or_right_false false c e = e

order_rises : (low : ℕ) (l : Literal) (clause : List Literal) → nat_lt low l.variable ≡ true → InOrder (l ∷ clause) → has_both_signs (l ∷ clause) ≡ false → rises_above low (l ∷ clause) ≡ true
unfolding InOrder Above
order_rises low l [] above order one = and_both (nat_lt low l.variable) true above refl
order_rises low l (m ∷ clause) above order one =
    and_both (nat_lt low l.variable) (rises_above l.variable (m ∷ clause)) above
    (order_rises l.variable m clause
    (first_smaller l.variable m.variable l.positive m.positive order.0 (or_left_false (l.variable == m.variable) (has_both_signs (m ∷ clause)) one))
    order.1
    (or_right_false (l.variable == m.variable) (has_both_signs (m ∷ clause)) one))

above_zero : (n : ℕ) → 0 < n → nat_lt 0 n ≡ true
above_zero n h = grind (arith, nat_tests)

clause_rises : (clause : List Literal) → Numbered clause → InOrder clause → has_both_signs clause ≡ false → rises clause ≡ true
unfolding Numbered
clause_rises [] positive order one = refl
clause_rises (l ∷ clause) positive order one = order_rises 0 l clause (above_zero l.variable positive.0) order one

unless_rises : (clause : List Literal) (b : Bool) → has_both_signs clause ≡ b → Numbered clause → InOrder clause → list_all rises (if b then [] else clause ∷ []) ≡ true
unless_rises clause true e positive order = refl
unless_rises clause false e positive order = and_both (rises clause) true (clause_rises clause positive order e) refl

in_normal_form_rises : (literals : List Literal) → Numbered literals → list_all rises (in_normal_form literals) ≡ true
unfolding Numbered
in_normal_form_rises literals h =
    unless_rises (sorted literals) (has_both_signs (sorted literals)) refl (fold_numbered literals [] h tt) (sorted_in_order literals)

-- what statements make rises, and so do meanings with signs
pub statements_rise : (p : MpiProgram) (clause : SymbolicClause) → list_all rises (normal_form p clause) ≡ true
statements_rise p clause = in_normal_form_rises (filter_map (literal_of p) clause) (literals_numbered p clause)

family_rises : (p : MpiProgram) (clauses : List SymbolicClause) → list_all rises (numbered p clauses) ≡ true
family_rises p clauses =
    all_flat_map rises (normal_form p) clauses
    (each_from (λ clause. list_all rises (normal_form p clause) ≡ true) (λ clause.
    in_normal_form_rises (filter_map (literal_of p) clause) (literals_numbered p clause)) clauses)

signed_numbered : (p : MpiProgram) (clause : List SignedMeaning) → Numbered (map (literal_of_signed p) clause)
unfolding Numbered
signed_numbered p [] = tt
signed_numbered p (x ∷ clause) = (one_more _, signed_numbered p clause)

pub meanings_rise : (p : MpiProgram) (clause : List SignedMeaning) → list_all rises (in_normal_form (map (literal_of_signed p) clause)) ≡ true
meanings_rise p clause = in_normal_form_rises (map (literal_of_signed p) clause) (signed_numbered p clause)

order_rises_too : (p : MpiProgram) → list_all rises (numbered_order p) ≡ true
order_rises_too p =
    all_flat_map rises (λ clause. in_normal_form (map (literal_of_signed p) clause)) (order_clauses p)
    (each_from (λ clause. list_all rises (in_normal_form (map (literal_of_signed p) clause)) ≡ true) (λ clause.
    in_normal_form_rises (map (literal_of_signed p) clause) (signed_numbered p clause)) (order_clauses p))

pub clauses_rise : ClausesRise
clauses_rise p =
    let others = map (said p) first_families in
    let last = map (said p) last_families in
    all_append rises (flat_map (numbered p) others ++ numbered_order p) (flat_map (numbered p) last)
    (all_append rises (flat_map (numbered p) others) (numbered_order p)
    (all_flat_map rises (numbered p) others (each_from (λ clauses. list_all rises (numbered p clauses) ≡ true) (family_rises p) others))
    (order_rises_too p))
    (all_flat_map rises (numbered p) last (each_from (λ clauses. list_all rises (numbered p clauses) ≡ true) (family_rises p) last))
