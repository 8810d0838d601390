-- Paths on which sets of literals are false.
use Rattle.std.proofs.Common.{◌≡◌, ℕ, Bool, true, false, not, ◌&&◌, ◌||◌, ◌==◌, nat_le, List, [], ◌∷◌, refl, ap, subst, sym, ◌∙◌, inl, inr, ◌⊎◌}
use Rattle.std.proofs.lemmas.Bool.{and_parts, and_from, or_cases, or_parts, or_left, or_right, eqb-true, eqb-false, not-true, not-false, both_ways}
use Rattle.clauses.specs.Clauses.{Literal, negation, signed, is_within}
use Rattle.clauses.specs.Packing.{packed}
use Rattle.refutations.specs.Trees.{are_opposite, is_negated, is_refuted}
use Rattle.tree_lines.specs.parts.LiteralSets.{is_in_clause, are_sorted, IsTautology, is_resolved, is_set_enough}
use Rattle.std.specs.List.{filter}
use Rattle.tree_lines.proofs.LiteralLaws.{is_other, sorted_without, among_without, all_at, all_by, cases_literal, other_literal, double_negation, no_own_negation}

opposite_signs : (p q : Bool) → signed (not p) q ≡ true → q ≡ not p
opposite_signs true true e = absurd (cc)
opposite_signs true false e = refl
opposite_signs false true e = refl
opposite_signs false false e = absurd (cc)

-- what is opposite to a literal is its negation
opposite_is : (x l : Literal) → are_opposite x l ≡ true → l ≡ negation x
opposite_is x l e =
    let parts = and_parts (x.variable == l.variable) (signed (not x.positive) l.positive) e in
    let same = eqb-true x.variable l.variable parts.0 in
    let sign = opposite_signs x.positive l.positive parts.1 in
    ap (λ (v : ℕ). let m : Literal = record { variable = v; positive = l.positive } in m) (sym same)
    ∙ ap (λ (b : Bool). let m : Literal = record { variable = x.variable; positive = b } in m) sign

-- a literal that is negated with one more taken, and is not its negation, is negated without
negated_without : (x : Literal) (path : List Literal) (l : Literal) → is_negated (x ∷ path) l ≡ true → (l ≡ negation x → ⊥) → is_negated path l ≡ true
negated_without x path l e other =
    elim (or_cases (are_opposite x l) (is_negated path l) e) [
      | inl here ↦ absurd (other (opposite_is x l here))
      | inr later ↦ later
    ]

false_there : (x y : Literal) (path one other : List Literal) → y ≡ negation x → is_set_enough one other y ≡ true → is_refuted (x ∷ path) one ≡ true → is_refuted (y ∷ path) other ≡ true → (m : Literal) → is_in_clause m one ≡ true → is_negated path m ≡ true
false_there x y path one other opposite enough first second m there =
    elim (cases_literal m y) [
      | inr differs ↦ negated_without x path m (all_at (is_negated (x ∷ path)) one m first there) (λ e. differs (e ∙ sym opposite))
      | inl same ↦
          elim (or_cases (not (is_in_clause y one)) (is_in_clause y other) enough) [
            | inl lacks ↦
                let has : is_in_clause y one ≡ true = subst (λ (l : Literal). is_in_clause l one ≡ true) same there in
                let wrong = rw has at lacks in
                absurd (cc)
            | inr has ↦
                let taken = all_at (is_negated (y ∷ path)) other y second has in
                let below = negated_without y path y taken (λ e. no_own_negation y (sym e)) in
                subst (λ (l : Literal). is_negated path l ≡ true) (sym same) below
          ]
    ]

-- the one set that is enough is false where the split's variable is open
pub refuted_one : (x : Literal) (path one other : List Literal) → is_set_enough one other (negation x) ≡ true → is_refuted (x ∷ path) one ≡ true → is_refuted (negation x ∷ path) other ≡ true → is_refuted path one ≡ true
refuted_one x path one other enough first second = all_by (is_negated path) one (false_there x (negation x) path one other refl enough first second)

pub refuted_other : (x : Literal) (path one other : List Literal) → is_set_enough other one x ≡ true → is_refuted (x ∷ path) one ≡ true → is_refuted (negation x ∷ path) other ≡ true → is_refuted path other ≡ true
refuted_other x path one other enough first second =
    all_by (is_negated path) other (false_there (negation x) x path other one (sym (double_negation x)) enough second first)

differs : (l m : Literal) → not (packed l == packed m) ≡ true → l ≡ m → ⊥
differs l m e same = eqb-false (packed l) (packed m) (not-true (packed l == packed m) e) (ap packed same)

-- a literal of the resolvent comes from one of the sets
pub resolved_cases : (x l : Literal) (first second : List Literal) → is_resolved x first second l ≡ true → ((l ≡ negation x → ⊥) × (is_in_clause l first ≡ true)) ⊎ ((l ≡ x → ⊥) × (is_in_clause l second ≡ true))
resolved_cases x l first second e =
    elim (or_cases (not (packed l == packed (negation x)) && is_in_clause l first) (not (packed l == packed x) && is_in_clause l second) e) [
      | inl one ↦
          let parts = and_parts (not (packed l == packed (negation x))) (is_in_clause l first) one in
          inl (differs l (negation x) parts.0, parts.1)
      | inr other ↦
          let parts = and_parts (not (packed l == packed x)) (is_in_clause l second) other in
          inr (differs l x parts.0, parts.1)
    ]

pub resolved_one : (x l : Literal) (first second : List Literal) → (l ≡ negation x → ⊥) → is_in_clause l first ≡ true → is_resolved x first second l ≡ true
resolved_one x l first second other there =
    or_left (not (packed l == packed (negation x)) && is_in_clause l first) (not (packed l == packed x) && is_in_clause l second) (and_from (not (packed l == packed (negation x))) (is_in_clause l first) (ap not (other_literal l (negation x) other)) there)

pub resolved_other : (x l : Literal) (first second : List Literal) → (l ≡ x → ⊥) → is_in_clause l second ≡ true → is_resolved x first second l ≡ true
resolved_other x l first second other there =
    or_right (not (packed l == packed (negation x)) && is_in_clause l first) (not (packed l == packed x) && is_in_clause l second) (and_from (not (packed l == packed x)) (is_in_clause l second) (ap not (other_literal l x other)) there)

-- the literals of this set are those of the resolvent
pub record AreResolved (x : Literal) (first second left : List Literal) : Type 0 where
  pub members : (l : Literal) → is_in_clause l left ≡ is_resolved x first second l

-- the resolvent is false where the split's variable is open
pub refuted_resolvent : (x : Literal) (path first second left : List Literal) → AreResolved x first second left → is_refuted (x ∷ path) first ≡ true → is_refuted (negation x ∷ path) second ≡ true → is_refuted path left ≡ true
refuted_resolvent x path first second left resolved one other =
    all_by (is_negated path) left (λ m there.
    elim (resolved_cases x m first second (sym (resolved.members m) ∙ there)) [
      | inl from_first ↦ negated_without x path m (all_at (is_negated (x ∷ path)) first m one from_first.1) from_first.0
      | inr from_second ↦
          negated_without (negation x) path m (all_at (is_negated (negation x ∷ path)) second m other from_second.1) (λ e. from_second.0 (e ∙ double_negation x))
    ])

-- so are its variables
pub within_resolvent : (x : Literal) (most : ℕ) (first second left : List Literal) → AreResolved x first second left → is_within most first ≡ true → is_within most second ≡ true → is_within most left ≡ true
within_resolvent x most first second left resolved one other =
    all_by (λ l. nat_le l.variable most) left (λ m there.
    elim (resolved_cases x m first second (sym (resolved.members m) ∙ there)) [
      | inl from_first ↦ all_at (λ l. nat_le l.variable most) first m one from_first.1
      | inr from_second ↦ all_at (λ l. nat_le l.variable most) second m other from_second.1
    ])

-- none of the two sets is enough: each has its literal of the split, and not the other's
pub record AreNeeded (x : Literal) (first second : List Literal) : Type 0 where
  pub in_first : is_in_clause (negation x) first ≡ true
  pub not_first : is_in_clause x first ≡ false
  pub in_second : is_in_clause x second ≡ true
  pub not_second : is_in_clause (negation x) second ≡ false

not_enough : (one other : List Literal) (l : Literal) → is_set_enough one other l ≡ false → (is_in_clause l one ≡ true) × (is_in_clause l other ≡ false)
not_enough one other l e =
    let parts = or_parts (not (is_in_clause l one)) (is_in_clause l other) e in
    (not-false (is_in_clause l one) parts.0, parts.1)

pub needed_both : (x : Literal) (first second : List Literal) → is_set_enough first second (negation x) ≡ false → is_set_enough second first x ≡ false → AreNeeded x first second
needed_both x first second one other =
    let firsts = not_enough first second (negation x) one in
    let seconds = not_enough second first x other in
    record { in_first = firsts.0; not_first = seconds.1; in_second = seconds.0; not_second = firsts.1 }

-- a tautology stays one, unless it is by the split's variable
pub tautology_one : (x : Literal) (first second left : List Literal) → AreNeeded x first second → AreResolved x first second left → IsTautology first → IsTautology left
tautology_one x first second left needed resolved t =
    let l = t.0 in
    let not_x : l ≡ x → ⊥ = λ e. both_ways (is_in_clause x first) needed.not_first (subst (λ (m : Literal). is_in_clause m first ≡ true) e t.1) in
    let not_negated : l ≡ negation x → ⊥ =
    λ e. both_ways (is_in_clause x first) needed.not_first (subst (λ (m : Literal). is_in_clause m first ≡ true) (ap negation e ∙ double_negation x) t.2) in
    let no_negation : negation l ≡ negation x → ⊥ = λ e. not_x (sym (double_negation l) ∙ ap negation e ∙ double_negation x) in
    (l, resolved.members l ∙ resolved_one x l first second not_negated t.1, resolved.members (negation l) ∙ resolved_one x (negation l) first second no_negation t.2)

pub tautology_other : (x : Literal) (first second left : List Literal) → AreNeeded x first second → AreResolved x first second left → IsTautology second → IsTautology left
tautology_other x first second left needed resolved t =
    let l = t.0 in
    let not_x : l ≡ x → ⊥ =
    λ e. both_ways (is_in_clause (negation x) second) needed.not_second (subst (λ (m : Literal). is_in_clause m second ≡ true) (ap negation e) t.2) in
    let not_negated : l ≡ negation x → ⊥ = λ e. both_ways (is_in_clause (negation x) second) needed.not_second (subst (λ (m : Literal). is_in_clause m second ≡ true) e t.1) in
    let no_negation : negation l ≡ x → ⊥ = λ e. not_negated (sym (double_negation l) ∙ ap negation e) in
    (l, resolved.members l ∙ resolved_other x l first second not_x t.1, resolved.members (negation l) ∙ resolved_other x (negation l) first second no_negation t.2)

-- what is false at the root is empty
pub empty_at_root : (ls : List Literal) → is_refuted [] ls ≡ true → ls ≡ []
empty_at_root [] e = refl
empty_at_root (l ∷ ls) e = absurd (cc)

-- an empty set is no tautology
pub no_empty_tautology : (ls : List Literal) → ls ≡ [] → IsTautology ls → ⊥
no_empty_tautology ls e t =
    let there = subst (λ (xs : List Literal). is_in_clause t.0 xs ≡ true) e t.1 in
    cc

-- ---- the resolvent that is made of what two filters leave

pub sorted_kept : (gone : Literal) (ls kept slice : List Literal) → are_sorted ls ≡ true → kept ≡ filter (is_other gone) ls → slice ≡ kept → are_sorted slice ≡ true
sorted_kept gone ls kept slice sorted is same = ap are_sorted (same ∙ is) ∙ sorted_without gone 2 ls sorted

among_kept : (gone l : Literal) (ls kept slice : List Literal) → kept ≡ filter (is_other gone) ls → slice ≡ kept → is_in_clause l slice ≡ (is_other gone l && is_in_clause l ls)
among_kept gone l ls kept slice is same = ap (is_in_clause l) (same ∙ is) ∙ among_without gone l ls

pub members_kept : (x nx : Literal) (first second one other slice_one slice_other left : List Literal) → nx ≡ negation x → one ≡ filter (is_other nx) first → slice_one ≡ one → other ≡ filter (is_other x) second → slice_other ≡ other → ((l : Literal) → is_in_clause l left ≡ (is_in_clause l slice_one || is_in_clause l slice_other)) → (l : Literal) → is_in_clause l left ≡ is_resolved x first second l
members_kept x nx first second one other slice_one slice_other left opposite is_one same_one is_other_one same_other members l =
    members l
    ∙ ap (λ (b : Bool). b || is_in_clause l slice_other) (among_kept nx l first one slice_one is_one same_one)
    ∙ ap (λ (b : Bool). (is_other nx l && is_in_clause l first) || b) (among_kept x l second other slice_other is_other_one same_other)
    ∙ ap (λ (y : Literal). (is_other y l && is_in_clause l first) || (is_other x l && is_in_clause l second)) opposite
