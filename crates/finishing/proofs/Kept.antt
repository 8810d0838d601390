-- A clause with a statement that says something else than that a rank is unfinished: its normal
-- form is kept in the formula of the runs that finish. So is each clause on the order of events.
use Rattle.std.proofs.Common.{◌≡◌, ℕ, zero, suc, ◌+◌, ◌-◌, ◌<◌, Bool, true, false, not, ◌&&◌, ◌||◌, nat_lt, if◌then◌else◌, List, [], ◌∷◌, map, Option, Some, None, slice_get, get_or, length, refl, sym, ap, ◌∙◌, subst, arith}
use Rattle.std.specs.Option.{unwrap_or}
use Rattle.std.specs.List.{filter_map, list_any, list_all, cons_option, position_or_len}
use Rattle.std.proofs.lemmas.List.Sums.{passes_at_first}
use Rattle.std.proofs.lemmas.Option.{slice_get_within, slice_get-get_or}
use Rattle.callorder.specs.Programs.{MpiProgram}
use Rattle.clauses.specs.Clauses.{Literal, TruthAssignment, signed, makes_true, satisfies, satisfies_clause}
use Rattle.formula.specs.declared.facts.Fact.TheVariants.{Issued as issued, Buffered as buffered, Matched as matched, Unfinished as unfinished}
use Rattle.formula.specs.declared.facts.Meaning.{Meaning}
use Rattle.formula.specs.declared.facts.Meaning.TheVariants.{OfFact as fact, ClockBit as clock_bit, Before as before, SameBits as same_bits}
use Rattle.formula.specs.declared.facts.Statement.{Statement}
use Rattle.formula.specs.declared.facts.Statement.TheVariants.{Holds as is_true, Fails as is_false, Earlier as is_earlier}
use Rattle.formula.specs.Families.{SymbolicClause, events, place_of_event}
use Rattle.formula.specs.Orders.{clock_size, is_so_by, rank_in_time}
use Rattle.formula.specs.Numbering.{meanings, is_same_meaning, variable_of, literal, literal_of, normal_form, numbered, numbered_order}
use Rattle.formula.specs.Laws.{holds_if_any, assignment_by}
use Rattle.formula.proofs.Elements.{Each, each_flat_map, each_mono, or_left, or_right}
use Rattle.formula.proofs.Meanings.{same_meaning}
use Rattle.formula.proofs.NormalForms.{in_normal_form_means}
use Rattle.formula.proofs.Times.{times_have_assignments}
use Rattle.formula_from_run.proofs.Ranks.{true_from_not}
use Rattle.run_from_formula.proofs.Along.{each_passes}
use Rattle.finishing.specs.Formula.{is_unfinished_fact, is_unfinished_meaning, says_unfinished, says_more}

-- ---- a clause that is satisfied although no variable says that a rank is unfinished

-- the variable stands for the fact that a rank is unfinished
abbrev is_unfinished : MpiProgram → ℕ → Bool
is_unfinished p v = is_unfinished_meaning (slice_get (meanings p) (v - 1))

-- the assignment says of no rank that it is unfinished
abbrev SaysOfNone : MpiProgram → TruthAssignment → Type 0
SaysOfNone p a = (v : ℕ) → is_unfinished p v ≡ true → a v ≡ false

or_second : (b rest : Bool) → b ≡ false → (b || rest) ≡ true → rest ≡ true
or_second true rest e h = absurd (cc)
or_second false rest e h = h

more_step : (p : MpiProgram) (a : TruthAssignment) → SaysOfNone p a → (v : ℕ) (s u : Bool) (clause : List Literal) → is_unfinished p v ≡ u → (signed s (a v) || satisfies_clause a clause) ≡ true → (satisfies_clause a clause ≡ true → says_more p clause ≡ true) → not ((s && u) && list_all (says_unfinished p) clause) ≡ true
more_step p a none v false u clause e h rest = refl
more_step p a none v true false clause e h rest = refl
more_step p a none v true true clause e h rest = rest (or_second (a v) (satisfies_clause a clause) (none v e) h)

more_if_met : (p : MpiProgram) (a : TruthAssignment) → SaysOfNone p a → (clause : List Literal) → satisfies_clause a clause ≡ true → says_more p clause ≡ true
more_if_met p a none [] h = absurd (cc)
more_if_met p a none (l ∷ clause) h =
    more_step p a none l.variable l.positive (is_unfinished p l.variable) clause refl h (more_if_met p a none clause)

-- each of the clauses is kept
abbrev pub AreKept : MpiProgram → List (List Literal) → Type 0
AreKept p clauses = Each (λ clause. says_more p clause ≡ true) clauses

kept_if_met : (p : MpiProgram) (a : TruthAssignment) → SaysOfNone p a → (clauses : List (List Literal)) → satisfies a clauses ≡ true → AreKept p clauses
kept_if_met p a none clauses h =
    each_mono (λ clause. satisfies_clause a clause ≡ true) (λ clause. says_more p clause ≡ true) (more_if_met p a none) clauses (each_passes (satisfies_clause a) clauses h)

-- ---- a statement that says something else

-- the variable of another meaning doesn't say that a rank is unfinished
stands_for_else : (p : MpiProgram) (m : Meaning) → is_unfinished_meaning (Some m) ≡ false → is_unfinished p (variable_of p m) ≡ false
stands_for_else p m other =
    let at : place + 1 - 1 ≡ place = omega arith in
    ap (λ (k : ℕ). is_unfinished_meaning (slice_get (meanings p) k)) at ∙ by (slice_get (meanings p) place) refl
  where
    place : ℕ
    place = position_or_len (is_same_meaning m) (meanings p)

    by : (o : Option Meaning) → slice_get (meanings p) place ≡ o → is_unfinished_meaning o ≡ false
    by None e = refl
    by (Some n) e =
        let inside = slice_get_within (meanings p) place n e in
        let same = same_meaning m (get_or (meanings p) place m) (passes_at_first (is_same_meaning m) (meanings p) m inside) in
        ap is_unfinished_meaning (sym e ∙ slice_get-get_or (meanings p) place m inside ∙ ap Some (sym same)) ∙ other

-- The statement says something else than that a rank is unfinished. Of an order it is asked that
-- events are named as they stand in their list.
abbrev pub says_else : MpiProgram → Statement → Bool
says_else p (is_true x) = not (is_unfinished_fact x)
says_else p (is_false x) = true
says_else p (is_earlier e f) = nat_lt (place_of_event p e) (place_of_event p f)

-- some assignment that says of no rank that it is unfinished satisfies the clause
record IsMet (p : MpiProgram) (clause : List Literal) : Type 0 where
  assignment : TruthAssignment
  none : SaysOfNone p assignment
  met : satisfies_clause assignment clause ≡ true

-- all is so but that ranks are unfinished
abbrev all_else : MpiProgram → TruthAssignment
all_else p v = not (is_unfinished p v)

first_met : (a : TruthAssignment) (o : Option Literal) (clause : List Literal) → holds_if_any a o ≡ true → satisfies_clause a (cons_option o clause) ≡ true
first_met a None clause h = absurd (cc)
first_met a (Some l) clause h = or_left (makes_true a l) (satisfies_clause a clause) h

later_met : (a : TruthAssignment) (o : Option Literal) (clause : List Literal) → satisfies_clause a clause ≡ true → satisfies_clause a (cons_option o clause) ≡ true
later_met a None clause h = h
later_met a (Some l) clause h = or_right (makes_true a l) (satisfies_clause a clause) h

statement_met : (p : MpiProgram) (x : Statement) (clause : List Literal) → says_else p x ≡ true → IsMet p (cons_option (literal_of p x) clause)
statement_met p (is_true x) clause h =
    let other = stands_for_else p (fact x) (true_from_not (is_unfinished_fact x) h) in
    record { assignment = all_else p; none = λ v e. ap not e; met = first_met (all_else p) (literal_of p (is_true x)) clause (ap not other) }
statement_met p (is_false x) clause h = record { assignment = λ v. false; none = λ v e. refl; met = refl }
statement_met p (is_earlier e f) clause h =
    let low = place_of_event p e in
    let high = place_of_event p f in
    let there : literal_of p (is_earlier e f) ≡ Some (literal (variable_of p (before low high)) true) =
    ap (λ (b : Bool). if b then Some (literal (variable_of p (before low high)) true) else if nat_lt high low then Some (literal (variable_of p (before high low)) false) else None) h
    in
    let other = stands_for_else p (before low high) refl in
    record { assignment = all_else p; none = λ v e. ap not e; met = first_met (all_else p) (literal_of p (is_earlier e f)) clause (ap (holds_if_any (all_else p)) there ∙ ap not other) }

-- some statement of the clause says something else
abbrev pub has_else : MpiProgram → SymbolicClause → Bool
has_else p clause = list_any (says_else p) clause

met_step : (p : MpiProgram) (x : Statement) (clause : SymbolicClause) (b : Bool) → says_else p x ≡ b → (b || has_else p clause) ≡ true → (has_else p clause ≡ true → IsMet p (filter_map (literal_of p) clause)) → IsMet p (cons_option (literal_of p x) (filter_map (literal_of p) clause))
met_step p x clause true e h rest = statement_met p x (filter_map (literal_of p) clause) e
met_step p x clause false e h rest =
    let w = rest h in
    record { assignment = w.assignment; none = w.none; met = later_met w.assignment (literal_of p x) (filter_map (literal_of p) clause) w.met }

clause_met : (p : MpiProgram) (clause : SymbolicClause) → has_else p clause ≡ true → IsMet p (filter_map (literal_of p) clause)
clause_met p [] h = absurd (cc)
clause_met p (x ∷ clause) h = met_step p x clause (says_else p x) refl h (clause_met p clause)

-- ---- what is kept

clause_kept : (p : MpiProgram) (clause : SymbolicClause) → has_else p clause ≡ true → AreKept p (normal_form p clause)
clause_kept p clause h =
    let w = clause_met p clause h in
    kept_if_met p w.assignment w.none (normal_form p clause) (in_normal_form_means w.assignment (filter_map (literal_of p) clause) ∙ w.met)

-- clauses that each say something else
pub clauses_kept : (p : MpiProgram) (clauses : List SymbolicClause) → list_all (has_else p) clauses ≡ true → AreKept p (numbered p clauses)
clauses_kept p clauses h =
    each_flat_map (λ clause. says_more p clause ≡ true) (normal_form p) clauses
    (each_mono (λ clause. has_else p clause ≡ true) (λ clause. AreKept p (normal_form p clause)) (clause_kept p) clauses (each_passes (has_else p) clauses h))

none_so : (is_so : Meaning → Bool) (m : Meaning) → ((rank : ℕ) → is_so (fact (unfinished rank)) ≡ false) → is_unfinished_meaning (Some m) ≡ true → is_so m ≡ false
none_so is_so (fact (unfinished rank)) never h = never rank
none_so is_so (fact (issued c)) never h = absurd (cc)
none_so is_so (fact (buffered c)) never h = absurd (cc)
none_so is_so (fact (matched s t)) never h = absurd (cc)
none_so is_so (clock_bit e i) never h = absurd (cc)
none_so is_so (before e f) never h = absurd (cc)
none_so is_so (same_bits e f i) never h = absurd (cc)

none_told : (is_so : Meaning → Bool) (ms : List Meaning) (k : ℕ) → ((rank : ℕ) → is_so (fact (unfinished rank)) ≡ false) → is_unfinished_meaning (slice_get ms k) ≡ true → unwrap_or (slice_get (map is_so ms) k) false ≡ false
none_told is_so [] k never h = refl
none_told is_so (m ∷ ms) zero never h = none_so is_so m never h
none_told is_so (m ∷ ms) (suc k) never h = none_told is_so ms k never h

differ : (e f : ℕ) → e < f → e ≡ f → ⊥
differ e f first same = omega (arith, first, same)

-- the clauses on the order: times alone satisfy them
pub order_kept : (p : MpiProgram) → AreKept p (numbered_order p)
order_kept p = kept_if_met p (assignment_by p (λ x. false) (λ e. e)) none (numbered_order p) (times_have_assignments p (λ x. false) (λ e. e) (λ e f first below. differ e f first)).0
  where
    is_so : Meaning → Bool
    is_so = is_so_by (λ x. false) (clock_size p) (rank_in_time (length (events p)) (λ e. e))

    none : SaysOfNone p (assignment_by p (λ x. false) (λ e. e))
    none zero h = refl
    none (suc k) h =
        let at : suc k - 1 ≡ k = omega arith in
        none_told is_so (meanings p) k (λ rank. refl) (subst (λ (n : ℕ). is_unfinished_meaning (slice_get (meanings p) n) ≡ true) at h)
