use Rattle.std.proofs.Common.{ℕ, List, ◌++◌, [], ◌∷◌, map, ap, ◌∙◌}
use Rattle.std.specs.Prelude.{codes}
use Rattle.plaintext.specs.Plain.{numeral, spaced}
use Rattle.prooflog.specs.Refutations.{literal_word}
use Rattle.prooflog.proofs.Writings.{proof_text}
use Rattle.prooflog.proofs.writer.put_line.Goals as goal

pub returns : goal.returns
returns c =
    let out : List ℕ = c.args.out.now.items in
    let literals = c.in_ok-put_literals.ensures ∙ (λ i. c.in_ok-extend_from_slice.ensures.items i ++ spaced (map literal_word (c.literals.ensures.same i))) in
    let colon = c.in_ok-extend_from_slice-2.ensures.items ∙ ap (λ (t : List ℕ). t ++ codes " :") literals in
    let hints = c.in_ok-put_hints.ensures ∙ (λ i. colon i ++ spaced (map numeral (c.hints.ensures.same i))) in
    c.in_ok-push.ensures.items ∙ ap (λ (t : List ℕ). t ++ 10 ∷ []) hints ∙ proof_text out c.args.line.now
