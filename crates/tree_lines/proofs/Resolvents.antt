-- A line with the literals of a resolvent derives from its two clauses.
use Rattle.std.proofs.Common.{◌≡◌, ℕ, ◌+◌, ◌<◌, Bool, true, false, not, nat_lt, nat_le, List, [], ◌∷◌, Some, None, refl, ap, subst, sym, ◌∙◌, arith, inl, inr}
use Rattle.std.proofs.lemmas.Bool.{and_parts, and_from, both_ways, ltb-true, eq-eqb, ne_eqb}
use Rattle.clauses.specs.Clauses.{Literal, Conjunction, negation, signed, rises, rises_above, is_within}
use Rattle.clauses.specs.Packing.{packed}
use Rattle.refutations.specs.Proofs.{ProofLine}
use Rattle.refutations.specs.Propagation.{PartialValues, no_values, assign, make_false, has_no_value, is_false, not_false, is_open_literal}
use Rattle.refutations.specs.Derivations.{clauses_before, clause_numbered, assumed, IsUnit, IsConflict, Derives}
use Rattle.tree_lines.specs.parts.LiteralSets.{is_in_clause, are_sorted, are_sorted_from}
use Rattle.tree_lines.proofs.LiteralLaws.{all_at, among_head, among_tail, among_cases, cases_literal, of_one_variable, sorted_above}
use Rattle.tree_lines.proofs.Paths.{AreResolved, AreNeeded, resolved_cases, resolved_one, resolved_other}

-- ---- what is known where literals are assumed false

-- nothing new of a variable that none of them has
known_elsewhere : (known : PartialValues) (ls : List Literal) (v : ℕ) → ((m : Literal) → is_in_clause m ls ≡ true → m.variable ≡ v → ⊥) → make_false known ls v ≡ known v
known_elsewhere known [] v none = refl
known_elsewhere known (l ∷ ls) v none =
    let apart : v ≡ l.variable → ⊥ = λ e. none l (among_head l ls) (sym e) in
    let here : assign known (negation l) v ≡ known v = rw (ne_eqb v l.variable apart) refl in
    known_elsewhere (assign known (negation l)) ls v (λ m there. none m (among_tail m l ls there)) ∙ here

rises_higher : (low : ℕ) (ls : List Literal) (m : Literal) → rises_above low ls ≡ true → is_in_clause m ls ≡ true → low < m.variable
rises_higher low [] m e there = absurd (cc)
rises_higher low (l ∷ ls) m e there =
    let parts = and_parts (nat_lt low l.variable) (rises_above l.variable ls) e in
    let above = ltb-true low l.variable parts.0 in
    elim (among_cases m l ls there) [
      | inl same ↦ let variable = ap (λ (x : Literal). x.variable) same in omega arith
      | inr later ↦ let higher = rises_higher l.variable ls m parts.1 later in omega arith
    ]

-- the negation of each, where no variable stands twice
known_there : (known : PartialValues) (low : ℕ) (ls : List Literal) (m : Literal) → rises_above low ls ≡ true → is_in_clause m ls ≡ true → make_false known ls m.variable ≡ Some (not m.positive)
known_there known low [] m e there = absurd (cc)
known_there known low (l ∷ ls) m e there =
    let parts = and_parts (nat_lt low l.variable) (rises_above l.variable ls) e in
    elim (among_cases m l ls there) [
      | inl same ↦
          let first = assign known (negation l) in
          let kept = known_elsewhere first ls l.variable (λ x behind f. let higher = rises_higher l.variable ls x parts.1 behind in absurd (omega arith)) in
          let here : first l.variable ≡ Some (not l.positive) = rw (eq-eqb l.variable l.variable refl) refl in
          subst (λ (x : Literal). make_false first ls x.variable ≡ Some (not x.positive)) same (kept ∙ here)
      | inr later ↦ known_there (assign known (negation l)) l.variable ls m parts.1 later
    ]

own_sign : (b : Bool) → signed b b ≡ true
own_sign true = refl
own_sign false = refl

-- a literal whose variable has the other value is false
false_by : (known : PartialValues) (m : Literal) → known m.variable ≡ Some (not m.positive) → is_false known m ≡ true
false_by known m e = rw e (own_sign (not m.positive))

-- a literal whose variable has no value is not false
not_false_by : (known : PartialValues) (m : Literal) → known m.variable ≡ None → is_false known m ≡ false
not_false_by known m e = rw e refl

-- ---- the literals that are not false

none_left : (known : PartialValues) (ls : List Literal) → ((m : Literal) → is_in_clause m ls ≡ true → is_false known m ≡ true) → not_false known ls ≡ []
none_left known [] each = refl
none_left known (l ∷ ls) each = rw (each l (among_head l ls)) (none_left known ls (λ m there. each m (among_tail m l ls there)))

one_left : (known : PartialValues) (low : ℕ) (ls : List Literal) (x : Literal) → are_sorted_from low ls ≡ true → is_in_clause x ls ≡ true → is_false known x ≡ false → ((m : Literal) → is_in_clause m ls ≡ true → (m ≡ x → ⊥) → is_false known m ≡ true) → not_false known ls ≡ x ∷ []
one_left known low [] x sorted there is_open_literal each = absurd (cc)
one_left known low (l ∷ ls) x sorted there is_open_literal each =
    let parts = and_parts (nat_le low (packed l)) (are_sorted_from (packed l + 1) ls) sorted in
    elim (cases_literal l x) [
      | inl same ↦
          let stays : is_false known l ≡ false = subst (λ (m : Literal). is_false known m ≡ false) (sym same) is_open_literal in
          let rest = none_left known ls (λ m behind. each m (among_tail m l ls behind) (λ e.
          let higher = sorted_above (packed l + 1) ls m parts.1 behind in
          let place = ap packed (e ∙ sym same) in
          omega arith)) in
          rw stays (ap (λ (ms : List Literal). l ∷ ms) rest ∙ ap (λ (m : Literal). m ∷ []) same)
      | inr other ↦
          let later : is_in_clause x ls ≡ true = elim (among_cases x l ls there) [ inl here ↦ absurd (other here) | inr behind ↦ behind ] in
          rw (each l (among_head l ls) other) (one_left known (packed l + 1) ls x parts.1 later is_open_literal (λ m behind. each m (among_tail m l ls behind)))
    ]

-- ---- the resolvent

-- its literals have another variable than the split
no_split_variable : (x : Literal) (first second left : List Literal) → AreNeeded x first second → AreResolved x first second left → (m : Literal) → is_in_clause m left ≡ true → m.variable ≡ x.variable → ⊥
no_split_variable x first second left needed resolved m there same =
    elim (resolved_cases x m first second (sym (resolved.members m) ∙ there)) [
      | inl one ↦
          elim (of_one_variable m x same) [
            | inl is ↦ both_ways (is_in_clause x first) needed.not_first (subst (λ (l : Literal). is_in_clause l first ≡ true) is one.1)
            | inr is ↦ one.0 is
          ]
      | inr other ↦
          elim (of_one_variable m x same) [
            | inl is ↦ other.0 is
            | inr is ↦ both_ways (is_in_clause (negation x) second) needed.not_second (subst (λ (l : Literal). is_in_clause l second ≡ true) is other.1)
          ]
    ]

-- the two hints derive it: the first clause makes its literal of the split true, then the second is
-- the conflict
pub resolvent_derives : (f : Conjunction) (earlier : List ProofLine) (x : Literal) (one other : ℕ) (first second left : List Literal) → clause_numbered (clauses_before f earlier) one ≡ Some first → clause_numbered (clauses_before f earlier) other ≡ Some second → are_sorted first ≡ true → is_within f.variables first ≡ true → AreNeeded x first second → AreResolved x first second left → is_within f.variables left ≡ true → rises left ≡ true → Derives f earlier (record { literals = left; hints = one ∷ other ∷ [] })
resolvent_derives f earlier x one other first second left named named_other sorted within needed resolved within_left rising =
    let line : ProofLine = record { literals = left; hints = one ∷ other ∷ [] } in
    let known : PartialValues = assumed line in
    let negated : Literal = negation x in
    let false_in_left : (m : Literal) → is_in_clause m left ≡ true → is_false known m ≡ true =
    λ m there. false_by known m (known_there no_values 0 left m rising there) in
    let nothing : known x.variable ≡ None = known_elsewhere no_values left x.variable (no_split_variable x first second left needed resolved) in
    let unit : IsUnit f.variables (clauses_before f earlier) known one negated = record {
      clause = first;
      named = named;
      others_false = one_left known 2 first negated sorted needed.in_first (not_false_by known negated nothing) (λ m there apart. false_in_left m (resolved.members m ∙ resolved_one x m first second apart there));
      unassigned = and_from (nat_le x.variable f.variables) (has_no_value (known x.variable)) (all_at (λ l. nat_le l.variable f.variables) first negated within needed.in_first) (ap has_no_value nothing);
    } in
    let after : PartialValues = assign known negated in
    let conflict : IsConflict (clauses_before f earlier) after other = record {
      clause = second;
      named = named_other;
      all_false = none_left after second (λ m there.
          elim (cases_literal m x) [
            | inl same ↦
                let here : after x.variable ≡ Some (not x.positive) = rw (eq-eqb x.variable x.variable refl) refl in
                false_by after m (subst (λ (l : Literal). after l.variable ≡ Some (not l.positive)) (sym same) here)
            | inr apart ↦
                let in_left = resolved.members m ∙ resolved_other x m first second apart there in
                let elsewhere = no_split_variable x first second left needed resolved m in_left in
                let kept : after m.variable ≡ known m.variable = rw (ne_eqb m.variable x.variable elsewhere) refl in
                false_by after m (kept ∙ known_there no_values 0 left m rising in_left)
          ]);
    } in
    record {
      within = within_left;
      reached = record { front = one ∷ []; hint = other; others = []; known = after; cut = refl; units = (negated, unit, refl) };
      conflict = conflict;
      is_last = refl;
    }
