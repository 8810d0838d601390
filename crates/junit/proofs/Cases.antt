-- One more test in a report.
use Rattle.std.proofs.Common.{◌≡◌, ◌∙◌, ◌++◌, ◌∷◌, ◌+◌, [], ap, arith, refl, sym, ℕ, Bool, true, false, List, length}
use Rattle.std.specs.Prelude.{filter}
use Rattle.std.specs.List.{flat_map}
use Rattle.std.proofs.lemmas.List.{append-nil, length-append}
use Rattle.std.proofs.lemmas.List.Elements.{filter-append}
use Rattle.std.proofs.lemmas.Grind.{flat_map-append}
use Rattle.junit.specs.Report.{Case, case_text}

pub text_behind : (cases : List Case) (c : Case) (old new : List ℕ) → old ≡ flat_map case_text cases → new ≡ old ++ case_text c
    → new ≡ flat_map case_text (cases ++ c ∷ [])
text_behind cases c old new e f =
    f ∙ ap (λ (l : List ℕ). l ++ case_text c) e ∙ sym (flat_map-append case_text cases (c ∷ [])
    ∙ ap (λ (l : List ℕ). flat_map case_text cases ++ l) (append-nil (case_text c)))

pub one_more : (cases : List Case) (c : Case) → length cases + 1 ≡ length (cases ++ c ∷ [])
one_more cases c = sym (length-append cases (c ∷ []))

abbrev pub number : (Case → Bool) → List Case → ℕ
number p cases = length (filter p cases)

pub counted : (p : Case → Bool) (cases : List Case) (c : Case) → p c ≡ true → number p cases + 1 ≡ number p (cases ++ c ∷ [])
counted p cases c e =
    sym (ap (λ (l : List Case). length l) (filter-append p cases (c ∷ [])) ∙ length-append (filter p cases) (filter p (c ∷ []))
    ∙ rw e refl)

pub not_counted : (p : Case → Bool) (cases : List Case) (c : Case) → p c ≡ false → number p cases ≡ number p (cases ++ c ∷ [])
not_counted p cases c e =
    sym (ap (λ (l : List Case). length l) (filter-append p cases (c ∷ [])) ∙ length-append (filter p cases) (filter p (c ∷ []))
    ∙ rw e (omega arith))
