-- What the writer's parts make, one after another, is the text of a formula.
use Rattle.std.proofs.Common.{◌≡◌, ℕ, List, [], ◌∷◌, ◌++◌, map, sym, ap, ◌∙◌, append_assoc}
use Rattle.std.specs.Prelude.{codes}
use Rattle.std.specs.List.{join_with_byte}
use Rattle.plaintext.specs.Plain.{numeral, spaced}
use Rattle.plaintext.proofs.Spaced.{spaced-join}
use Rattle.clauses.specs.Clauses.{Literal}
use Rattle.prooflog.specs.Refutations.{literal_word}
use Rattle.prooflog.specs.FormulaText.{clause_line, formula_heading}

-- the line of a clause
pub clause_text : (out : List ℕ) (clause : List Literal) → ((out ++ codes "clause") ++ spaced (map literal_word clause)) ++ 10 ∷ [] ≡ out ++ clause_line clause
clause_text out clause =
    ap (λ (t : List ℕ). t ++ 10 ∷ []) (append_assoc out (codes "clause") (spaced (map literal_word clause)) ∙ ap (λ (t : List ℕ). out ++ t) (sym (spaced-join (codes "clause") (map literal_word clause))))
    ∙ append_assoc out (join_with_byte 32 (codes "clause" ∷ map literal_word clause)) (10 ∷ [])

-- the heading
pub heading_text : (out : List ℕ) (variables clauses : ℕ) → ((((out ++ codes "formula ") ++ numeral variables) ++ 32 ∷ []) ++ numeral clauses) ++ 10 ∷ [] ≡ out ++ formula_heading variables clauses
heading_text out variables clauses =
    ap (λ (t : List ℕ). t ++ 10 ∷ []) (
    append_assoc ((out ++ codes "formula ") ++ numeral variables) (32 ∷ []) (numeral clauses)
    ∙ append_assoc (out ++ codes "formula ") (numeral variables) (32 ∷ numeral clauses)
    ∙ append_assoc out (codes "formula ") (numeral variables ++ 32 ∷ numeral clauses)
    )
    ∙ append_assoc out (codes "formula " ++ (numeral variables ++ 32 ∷ numeral clauses)) (10 ∷ [])
