-- The clause that one of some ranks is unfinished says nothing more, also in its normal form.
use Rattle.std.proofs.Common.{◌≡◌, ℕ, ◌+◌, ◌-◌, Bool, true, false, not, if◌then◌else◌, List, [], ◌∷◌, map, Some, slice_get, get_or, refl, sym, ap, ◌∙◌, arith}
use Rattle.std.specs.List.{filter_map, fold, list_all, position_or_len}
use Rattle.std.proofs.lemmas.Bool.{and_parts}
use Rattle.std.proofs.lemmas.List.Sums.{passes_at_first}
use Rattle.std.proofs.lemmas.Option.{slice_get-get_or}
use Rattle.callorder.specs.ProgramRules.{IsProgram}
use Rattle.callorder.specs.Programs.{MpiProgram}
use Rattle.clauses.specs.Clauses.{Literal}
use Rattle.formula.specs.declared.facts.Fact.TheVariants.{Unfinished as unfinished}
use Rattle.formula.specs.declared.facts.Meaning.{Meaning}
use Rattle.formula.specs.declared.facts.Meaning.TheVariants.{OfFact as fact}
use Rattle.formula.specs.declared.facts.Statement.TheVariants.{Holds as is_true}
use Rattle.formula.specs.Families.{last_calls, rank_of}
use Rattle.formula.specs.Numbering.{meanings, is_same_meaning, variable_of, literal, comes_first, insert_literal, sorted, has_both_signs, literal_of, normal_form}
use Rattle.formula.proofs.Elements.{and_both, Each, position_within}
use Rattle.formula.proofs.Meanings.{same_meaning}
use Rattle.formula.proofs.Named.{IsVariable}
use Rattle.finishing.specs.Formula.{is_unfinished_meaning, says_unfinished, says_more}
use Rattle.finishing.proofs.Named.{unfinished_named}

-- ---- literals

-- the variable of a meaning stands for it
stands_for : (p : MpiProgram) (m : Meaning) → IsVariable p m → slice_get (meanings p) (variable_of p m - 1) ≡ Some m
stands_for p m named =
    let test : Meaning → Bool = is_same_meaning m in
    let place = position_or_len test (meanings p) in
    let inside = position_within test (meanings p) named in
    let at : place + 1 - 1 ≡ place = omega arith in
    let same = same_meaning m (get_or (meanings p) place m) (passes_at_first test (meanings p) m inside) in
    ap (slice_get (meanings p)) at ∙ slice_get-get_or (meanings p) place m inside ∙ ap Some (sym same)

unfinished_said : (p : MpiProgram) (rank : ℕ) → IsVariable p (fact (unfinished rank)) → says_unfinished p (literal (variable_of p (fact (unfinished rank))) true) ≡ true
unfinished_said p rank named = ap is_unfinished_meaning (stands_for p (fact (unfinished rank)) named)

all_said : (p : MpiProgram) (cs : List ℕ) → Each (λ c. IsVariable p (fact (unfinished (rank_of p c)))) cs → list_all (says_unfinished p) (filter_map (literal_of p) (map (λ c. is_true (unfinished (rank_of p c))) cs)) ≡ true
all_said p [] named = refl
all_said p (c ∷ cs) named = and_both _ _ (unfinished_said p (rank_of p c) named.0) (all_said p cs named.1)

-- ---- a test that all literals of a clause pass, they pass in its normal form

put_step : (test : Literal → Bool) (l m : Literal) (clause : List Literal) (s t : Bool) → test l ≡ true → test m ≡ true → list_all test clause ≡ true → list_all test (insert_literal l clause) ≡ true → list_all test (if s then m ∷ insert_literal l clause else if t then l ∷ m ∷ clause else m ∷ clause) ≡ true
put_step test l m clause true t one other rest more = and_both (test m) _ other more
put_step test l m clause false true one other rest more = and_both (test l) _ one (and_both (test m) _ other rest)
put_step test l m clause false false one other rest more = and_both (test m) _ other rest

put_passes : (test : Literal → Bool) (l : Literal) (clause : List Literal) → test l ≡ true → list_all test clause ≡ true → list_all test (insert_literal l clause) ≡ true
put_passes test l [] one all = and_both (test l) true one refl
put_passes test l (m ∷ clause) one all =
    let parts = and_parts (test m) (list_all test clause) all in
    put_step test l m clause (comes_first m l) (comes_first l m) one parts.0 parts.1 (put_passes test l clause one parts.1)

sorted_passes : (test : Literal → Bool) (literals clause : List Literal) → list_all test literals ≡ true → list_all test clause ≡ true → list_all test (fold (λ clause l. insert_literal l clause) clause literals) ≡ true
sorted_passes test [] clause h all = all
sorted_passes test (l ∷ literals) clause h all =
    let parts = and_parts (test l) (list_all test literals) h in
    sorted_passes test literals (insert_literal l clause) parts.1 (put_passes test l clause parts.0 all)

-- ---- the clause

no_more_said : (p : MpiProgram) (P : List Literal → Type 0) (clause : List Literal) (b : Bool) → list_all (says_unfinished p) clause ≡ true → Each (λ x. says_more p x ≡ true → P x) (if b then [] else clause ∷ [])
no_more_said p P clause true h = tt
no_more_said p P clause false h = (λ more. absurd (let off : says_more p clause ≡ false = ap not h in cc), tt)

-- whatever is wanted of clauses that say more, of this clause nothing is wanted
pub nothing_wanted : (p : MpiProgram) (P : List Literal → Type 0) → IsProgram p → Each (λ x. says_more p x ≡ true → P x) (normal_form p (map (λ c. is_true (unfinished (rank_of p c))) (last_calls p)))
nothing_wanted p P is =
    let literals = filter_map (literal_of p) (map (λ c. is_true (unfinished (rank_of p c))) (last_calls p)) in
    no_more_said p P (sorted literals) (has_both_signs (sorted literals))
    (sorted_passes (says_unfinished p) literals [] (all_said p (last_calls p) (unfinished_named p is)) refl)
