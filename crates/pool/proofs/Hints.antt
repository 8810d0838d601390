-- Hints of batches, and hints of derived lines.
use Rattle.std.proofs.Common.{◌≡◌, ℕ, zero, suc, ◌+◌, ◌≤◌, leb, true, false, List, [], ◌∷◌, ◌++◌, length, map, Option, Some, None, IsTrue, IsSome, IfSome, IfNone, min, refl, ap, sym, ◌∙◌, arith, inl, inr}
use Rattle.std.proofs.lemmas.Bool.{cases_Bool, and_parts, and_from, leb-true, le-leb}
use Rattle.std.proofs.lemmas.List.{length-append, length-map}
use Rattle.std.proofs.lemmas.List.Folds.{list_all-append}
use Rattle.std.proofs.lemmas.Option.{slice_get_within}
use Rattle.refutations.specs.declared.batch.BatchLine.{BatchLine}
use Rattle.refutations.specs.declared.batch.Hint.{Hint}
use Rattle.refutations.specs.declared.batch.Hint.TheVariants.{Known, Own}
use Rattle.clauses.specs.Clauses.{Literal, Conjunction, rises}
use Rattle.refutations.specs.Propagation.{PartialValues, assign}
use Rattle.refutations.specs.Derivations.{clauses_before, clause_numbered, Propagates, Derives}
use Rattle.refutations.specs.Proofs.{ProofLine, is_proof_number, are_numbers}
use Rattle.pool.specs.parts.Batches.{capped_hint}
use Rattle.pool.specs.Replies.{resolved, resolved_hint}

pub number_parts : (n : ℕ) → is_proof_number n ≡ true → (1 ≤ n) × (n ≤ 2147483647)
number_parts n e = let both = and_parts (leb 1 n) (leb n 2147483647) e in (leb-true 1 n both.0, leb-true n 2147483647 both.1)

number_from : (n : ℕ) → 1 ≤ n → n ≤ 2147483647 → is_proof_number n ≡ true
number_from n low high = and_from (leb 1 n) (leb n 2147483647) (le-leb 1 n low) (le-leb n 2147483647 high)

capped_same : (base : ℕ) (hint : Hint) → is_proof_number (capped_hint base hint) ≡ true → capped_hint base hint ≡ resolved_hint base hint
capped_same base (Known number) e = refl
capped_same base (Own place) e = omega (arith, number_parts (min (base + place) 4294967295) e)

same_capped : (base : ℕ) (hint : Hint) → is_proof_number (resolved_hint base hint) ≡ true → capped_hint base hint ≡ resolved_hint base hint
same_capped base (Known number) e = refl
same_capped base (Own place) e = omega (arith, number_parts (base + place) e)

-- where all can be held, nothing was cut
pub capped_are_resolved : (base : ℕ) (hints : List Hint) → are_numbers (map (capped_hint base) hints) ≡ true → map (capped_hint base) hints ≡ map (resolved_hint base) hints
capped_are_resolved base [] e = refl
capped_are_resolved base (hint ∷ hints) e =
    let both = and_parts (is_proof_number (capped_hint base hint)) (are_numbers (map (capped_hint base) hints)) e in
    ap (λ (n : ℕ). n ∷ map (capped_hint base) hints) (capped_same base hint both.0) ∙ ap (λ (ns : List ℕ). resolved_hint base hint ∷ ns) (capped_are_resolved base hints both.1)

pub resolved_are_capped : (base : ℕ) (hints : List Hint) → are_numbers (map (resolved_hint base) hints) ≡ true → map (capped_hint base) hints ≡ map (resolved_hint base) hints
resolved_are_capped base [] e = refl
resolved_are_capped base (hint ∷ hints) e =
    let both = and_parts (is_proof_number (resolved_hint base hint)) (are_numbers (map (resolved_hint base) hints)) e in
    ap (λ (n : ℕ). n ∷ map (capped_hint base) hints) (same_capped base hint both.0) ∙ ap (λ (ns : List ℕ). resolved_hint base hint ∷ ns) (resolved_are_capped base hints both.1)

-- no line can hold them
pub not_held : (base : ℕ) (hints : List Hint) → (are_numbers (map (capped_hint base) hints) ≡ true → ⊥) → are_numbers (map (resolved_hint base) hints) ≡ false
not_held base hints none =
    elim (cases_Bool (are_numbers (map (resolved_hint base) hints))) [
      | inl all ↦ absurd (none (ap are_numbers (resolved_are_capped base hints all) ∙ all))
      | inr some ↦ some
    ]

-- the line that was made
pub made_line : (base : ℕ) (line : BatchLine) (literals : List Literal) (hints : List ℕ) (made : ProofLine) → literals ≡ line.clause → hints ≡ map (capped_hint base) line.hints.items → are_numbers hints ≡ true → made ≡ record { literals = literals; hints = hints } → made ≡ resolved base line
made_line base line literals hints made one two numbers e =
    let same : hints ≡ map (resolved_hint base) line.hints.items = two ∙ capped_are_resolved base line.hints.items (ap are_numbers (sym two) ∙ numbers) in
    e ∙ ap (λ (ls : List Literal). record { literals = ls; hints = hints }) one ∙ ap (λ (ns : List ℕ). record { literals = line.clause; hints = ns }) same

-- ---- hints of derived lines name clauses

named_is_number : (clauses : List (List Literal)) (n : ℕ) (clause : List Literal) → length clauses ≤ 2147483647 → clause_numbered clauses n ≡ Some clause → is_proof_number n ≡ true
named_is_number clauses zero clause few e = absurd (cc)
named_is_number clauses (suc place) clause few e = number_from (suc place) (omega arith) (omega (arith, slice_get_within clauses place clause e))

units_are_numbers : (variables : ℕ) (clauses : List (List Literal)) (known end : PartialValues) (hints : List ℕ) → length clauses ≤ 2147483647 → Propagates variables clauses known hints end → are_numbers hints ≡ true
units_are_numbers variables clauses known end [] few e = refl
units_are_numbers variables clauses known end (hint ∷ hints) few (l, unit, further) =
    and_from (is_proof_number hint) (are_numbers hints) (named_is_number clauses hint unit.clause few unit.named) (units_are_numbers variables clauses (assign known l) end hints few further)

pub derived_numbers : (f : Conjunction) (earlier : List ProofLine) (line : ProofLine) → length f.clauses + length earlier ≤ 2147483647 → Derives f earlier line → are_numbers line.hints ≡ true
derived_numbers f earlier line few d =
    let clauses = clauses_before f earlier in
    let count : length clauses ≤ 2147483647 = omega (arith, few, length-append f.clauses (map (λ (l : ProofLine). l.literals) earlier), length-map earlier (λ (l : ProofLine). l.literals)) in
    let front = units_are_numbers f.variables clauses _ d.reached.known d.reached.front count d.reached.units in
    let conflict = named_is_number clauses d.reached.hint d.conflict.clause count d.conflict.named in
    ap are_numbers d.reached.cut
    ∙ ap (λ (others : List ℕ). are_numbers (d.reached.front ++ d.reached.hint ∷ others)) d.is_last
    ∙ list_all-append is_proof_number d.reached.front (d.reached.hint ∷ [])
    ∙ and_from (are_numbers d.reached.front) (are_numbers (d.reached.hint ∷ [])) front (and_from (is_proof_number d.reached.hint) true conflict refl)

-- what came of making the line
pub made_from : (base : ℕ) (line : BatchLine) (literals : List Literal) (hints : List ℕ) (found : Option ProofLine) → literals ≡ line.clause → hints ≡ map (capped_hint base) line.hints.items → (IsSome found → IsTrue (rises literals) × IsTrue (are_numbers hints)) → IfSome found (λ made. made ≡ record { literals = literals; hints = hints }) → IfSome found (λ made. made ≡ resolved base line)
made_from base line literals hints None one two when made = tt
made_from base line literals hints (Some line_made) one two when made = made_line base line literals hints line_made one two (when refl).1 made

pub none_from : (base : ℕ) (line : BatchLine) (literals : List Literal) (hints : List ℕ) (found : Option ProofLine) → literals ≡ line.clause → IsTrue (rises line.clause) → hints ≡ map (capped_hint base) line.hints.items → (IsTrue (rises literals) × IsTrue (are_numbers hints) → IsSome found) → IfNone found (are_numbers (map (resolved_hint base) line.hints.items) ≡ false)
none_from base line literals hints None one rising two when =
    not_held base line.hints.items (λ all. let some = when (ap rises one ∙ rising, ap are_numbers two ∙ all) in cc)
none_from base line literals hints (Some made) one rising two when = tt
