use Rattle.std.proofs.Common.{ℕ, List, ◌++◌, [], ◌∷◌, map, ap, ◌∙◌}
use Rattle.plaintext.specs.Plain.{spaced}
use Rattle.prooflog.specs.Refutations.{literal_word}
use Rattle.prooflog.proofs.FormulaTexts.{clause_text}
use Rattle.prooflog.proofs.formula_text.put_clause.Goals as goal

pub returns : goal.returns
returns c =
    let literals = c.in_ok-put_literals.ensures ∙ (λ i. c.in_ok-extend_from_slice.ensures.items i ++ spaced (map literal_word (c.literals.ensures.same i))) in
    c.in_ok-push.ensures.items ∙ ap (λ (t : List ℕ). t ++ 10 ∷ []) literals ∙ clause_text c.args.out.now.items c.args.clause.now
