use Rattle.std.proofs.Common.{ℕ, List, ◌++◌, [], ◌∷◌, ap, ◌∙◌}
use Rattle.plaintext.specs.Plain.{numeral}
use Rattle.prooflog.proofs.FormulaTexts.{heading_text}
use Rattle.prooflog.proofs.formula_text.put_heading.Goals as goal

pub returns : goal.returns
returns c =
    let variables = c.in_ok-put_number.ensures.written ∙ ap (λ (t : List ℕ). t ++ numeral c.args.variables) c.in_ok-extend_from_slice.ensures.items in
    let space = c.in_ok-push.ensures.items ∙ ap (λ (t : List ℕ). t ++ 32 ∷ []) variables in
    let clauses = c.in_ok-put_number-2.ensures.written ∙ ap (λ (t : List ℕ). t ++ numeral c.args.clauses) space in
    c.in_ok-push-2.ensures.items ∙ ap (λ (t : List ℕ). t ++ 10 ∷ []) clauses ∙ heading_text c.args.out.now.items c.args.variables c.args.clauses
