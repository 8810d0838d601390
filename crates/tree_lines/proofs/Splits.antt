-- The entry of a split, from those of the trees below it.
use Rattle.std.proofs.Common.{◌≡◌, ℕ, true, false, IsTrue, List, [], ◌∷◌, ◌++◌, Option, Some, None, ap, subst, sym, ◌∙◌, inl, inr, ◌⊎◌}
use Rattle.clauses.specs.Clauses.{Literal, Conjunction, negation, rises, is_within}
use Rattle.refutations.specs.Proofs.{ProofLine, is_proof_number}
use Rattle.refutations.specs.Derivations.{clauses_before, clause_numbered, Derives}
use Rattle.refutations.specs.Refutations.{AreDerived}
use Rattle.refutations.specs.Trees.{is_refuted}
use Rattle.tree_lines.specs.declared.joining.Entry.{Entry}
use Rattle.tree_lines.specs.parts.LiteralSets.{is_in_clause, are_sorted, IsTautology, is_resolved, is_set_enough}
use Rattle.tree_lines.specs.parts.Entries.{HasClauseNumber, IsEntry, IsAddedEntry, IsSplitEntry}
use Rattle.tree_lines.proofs.Paths.{refuted_one, refuted_other, AreResolved, refuted_resolvent, within_resolvent, AreNeeded, needed_both, tautology_one, tautology_other}
use Rattle.tree_lines.proofs.Added.{goes_on_none}
use Rattle.tree_lines.proofs.Resolvents.{resolvent_derives}

pub first_enough : (f : Conjunction) (lines old : List ProofLine) (x nx : Literal) (first second : Entry) → AreDerived f (lines ++ old) → IsEntry f (lines ++ old) first → nx ≡ negation x → is_set_enough first.literals.items second.literals.items nx ≡ true → IsSplitEntry f lines old old x first second first
first_enough f lines old x nx first second derived is opposite enough =
    let there = subst (λ (l : Literal). is_set_enough first.literals.items second.literals.items l ≡ true) opposite enough in
    record {
      added = goes_on_none f lines old derived;
      is_entry = is;
      false_there = λ path one other. refuted_one x path first.literals.items second.literals.items there one other;
    }

pub second_enough : (f : Conjunction) (lines old : List ProofLine) (x : Literal) (first second : Entry) → AreDerived f (lines ++ old) → IsEntry f (lines ++ old) second → is_set_enough second.literals.items first.literals.items x ≡ true → IsSplitEntry f lines old old x first second second
second_enough f lines old x first second derived is enough =
    record {
      added = goes_on_none f lines old derived;
      is_entry = is;
      false_there = λ path one other. refuted_other x path first.literals.items second.literals.items enough one other;
    }

-- What is left where neither set is enough.
pub record IsLeft (f : Conjunction) (lines : List ProofLine) (x : Literal) (first second : Entry) (left : List Literal) : Type 0 where
  pub first_is : IsEntry f lines first
  pub second_is : IsEntry f lines second
  pub needed : AreNeeded x first.literals.items second.literals.items
  pub resolved : AreResolved x first.literals.items second.literals.items left
  pub sorted : are_sorted left ≡ true

pub is_left : (f : Conjunction) (lines : List ProofLine) (x nx : Literal) (first second : Entry) (one other left : List Literal) → IsEntry f lines first → IsEntry f lines second → nx ≡ negation x → is_set_enough first.literals.items second.literals.items nx ≡ false → is_set_enough second.literals.items first.literals.items x ≡ false → one ≡ first.literals.items → other ≡ second.literals.items → are_sorted left ≡ true → ((l : Literal) → is_in_clause l left ≡ is_resolved x one other l) → IsLeft f lines x first second left
is_left f lines x nx first second one other left first_is second_is opposite not_first not_second same same_other sorted members =
    record {
      first_is = first_is;
      second_is = second_is;
      needed = needed_both x first.literals.items second.literals.items (subst (λ (l : Literal). is_set_enough first.literals.items second.literals.items l ≡ false) opposite not_first) not_second;
      resolved = record {
        members = λ l. members l ∙ ap (λ (ls : List Literal). is_resolved x ls other l) same ∙ ap (λ (ls : List Literal). is_resolved x first.literals.items ls l) same_other;
      };
      sorted = sorted;
    }

pub left_within : (f : Conjunction) (lines : List ProofLine) (x : Literal) (first second : Entry) (left : List Literal) → IsLeft f lines x first second left → is_within f.variables left ≡ true
left_within f lines x first second left is =
    within_resolvent x f.variables first.literals.items second.literals.items left is.resolved is.first_is.within is.second_is.within

-- without a number each set is a tautology
unnumbered : (clauses : List (List Literal)) (literals : List Literal) (found : Option ℕ) → found ≡ None → HasClauseNumber clauses literals found → IsTautology literals
unnumbered clauses literals None e numbered = numbered
unnumbered clauses literals (Some number) e numbered = absurd (cc)

left_tautology : (f : Conjunction) (lines : List ProofLine) (x : Literal) (first second : Entry) (left : List Literal) → IsLeft f lines x first second left → (first.number ≡ None) ⊎ (second.number ≡ None) → IsTautology left
left_tautology f lines x first second left is (inl none) =
    tautology_one x first.literals.items second.literals.items left is.needed is.resolved (unnumbered (clauses_before f lines) first.literals.items first.number none is.first_is.numbered)
left_tautology f lines x first second left is (inr none) =
    tautology_other x first.literals.items second.literals.items left is.needed is.resolved (unnumbered (clauses_before f lines) second.literals.items second.number none is.second_is.numbered)

pub left_unnumbered : (f : Conjunction) (lines old : List ProofLine) (x : Literal) (first second entry : Entry) (left : List Literal) → AreDerived f (lines ++ old) → IsLeft f (lines ++ old) x first second left → (first.number ≡ None) ⊎ (second.number ≡ None) → entry.literals.items ≡ left → entry.number ≡ None → IsSplitEntry f lines old old x first second entry
left_unnumbered f lines old x first second entry left derived is none same found =
    let tautology = left_tautology f (lines ++ old) x first second left is none in
    record {
      added = goes_on_none f lines old derived;
      is_entry = record {
        sorted = ap are_sorted same ∙ is.sorted;
        within = ap (is_within f.variables) same ∙ left_within f (lines ++ old) x first second left is;
        numbered = subst (λ (o : Option ℕ). HasClauseNumber (clauses_before f (lines ++ old)) entry.literals.items o) (sym found) (subst (λ (ls : List Literal). IsTautology ls) (sym same) tautology);
      };
      false_there = λ path one other. ap (is_refuted path) same ∙ refuted_resolvent x path first.literals.items second.literals.items left is.resolved one other;
    }

numbered_with : (clauses : List (List Literal)) (literals : List Literal) (found : Option ℕ) (number : ℕ) → found ≡ Some number → HasClauseNumber clauses literals found → (clause_numbered clauses number ≡ Some literals) × IsTrue (is_proof_number number)
numbered_with clauses literals None number e numbered = absurd (cc)
numbered_with clauses literals (Some other) number e numbered =
    let same : other ≡ number = cc in
    subst (λ (n : ℕ). (clause_numbered clauses n ≡ Some literals) × IsTrue (is_proof_number n)) same numbered

pub entry_number : (f : Conjunction) (lines : List ProofLine) (entry : Entry) (number : ℕ) → IsEntry f lines entry → entry.number ≡ Some number → (clause_numbered (clauses_before f lines) number ≡ Some entry.literals.items) × IsTrue (is_proof_number number)
entry_number f lines entry number is found = numbered_with (clauses_before f lines) entry.literals.items entry.number number found is.numbered

pub left_derives : (f : Conjunction) (lines : List ProofLine) (x : Literal) (first second : Entry) (left : List Literal) (hints : List ℕ) (one other : ℕ) → IsLeft f lines x first second left → first.number ≡ Some one → second.number ≡ Some other → hints ≡ one ∷ other ∷ [] → rises left ≡ true → Derives f lines (record { literals = left; hints = hints })
left_derives f lines x first second left hints one other is found found_other given rising =
    let derives = resolvent_derives f lines x one other first.literals.items second.literals.items left (entry_number f lines first one is.first_is found).0 (entry_number f lines second other is.second_is found_other).0 is.first_is.sorted is.first_is.within is.needed is.resolved (left_within f lines x first second left is) rising in
    subst (λ (hs : List ℕ). Derives f lines (record { literals = left; hints = hs })) (sym given) derives

pub left_added : (f : Conjunction) (lines old new : List ProofLine) (x : Literal) (first second entry : Entry) (left : List Literal) → IsLeft f (lines ++ old) x first second left → IsAddedEntry f lines old new left entry → IsSplitEntry f lines old new x first second entry
left_added f lines old new x first second entry left is added =
    record {
      added = added.added;
      is_entry = added.is_entry;
      false_there = λ path one other. ap (is_refuted path) added.same ∙ refuted_resolvent x path first.literals.items second.literals.items left is.resolved one other;
    }
