use Rattle.std.proofs.Common.{ℕ, List, ◌++◌, [], ◌∷◌, ap, ◌∙◌}
use Rattle.std.specs.Prelude.{codes}
use Rattle.plaintext.specs.Plain.{numeral}
use Rattle.prooflog.specs.Grammar.{heading_line}
use Rattle.prooflog.proofs.Writings.{front_written}
use Rattle.prooflog.proofs.writer.put_front.Goals as goal

pub returns : goal.returns
returns c =
    let out : List ℕ = c.args.out.now.items in
    let heading = c.in_ok-put_heading.ensures ∙ (λ i. out ++ heading_line (c.version.ensures i)) in
    let first = c.in_ok-extend_from_slice.ensures.items ∙ ap (λ (t : List ℕ). t ++ codes "refutation ") heading in
    let variables = c.in_ok-put_number.ensures.written ∙ (λ i. first i ++ numeral (c.variables.ensures.same i)) in
    let space = c.in_ok-push.ensures.items ∙ ap (λ (t : List ℕ). t ++ 32 ∷ []) variables in
    let clauses = c.in_ok-put_number-2.ensures.written ∙ (λ i. space i ++ numeral (c.clauses.ensures.same i)) in
    c.in_ok-push-2.ensures.items ∙ ap (λ (t : List ℕ). t ++ 10 ∷ []) clauses ∙ front_written out c.args.refutation.now.version c.args.refutation.now.variables c.args.refutation.now.clauses
