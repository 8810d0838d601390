use Rattle.std.proofs.Common.{ℕ, List, ◌++◌, [], ◌∷◌, get_or, ap, ◌∙◌}
use Rattle.plaintext.specs.Plain.{numeral, spaced}
use Rattle.prooflog.proofs.Writings.{one_spaced, space_word}
use Rattle.prooflog.proofs.writer.put_hints.Goals as goal

pub loop-hint-preserved : goal.loop-hint-preserved
loop-hint-preserved c =
    let word : List ℕ = numeral (get_or c.args.hints.now c.loop-hint.hint-index 0) in
    c.in_ok-put_number.ensures.written ∙ ap (λ (out : List ℕ). out ++ word) c.in_ok-push.ensures.items ∙ space_word c.loop-hint.out.items word ∙ ap (λ (out : List ℕ). out ++ spaced (word ∷ [])) c.loop-hint.invariant
    ∙ one_spaced numeral c.args.out.now.items c.args.hints.now c.loop-hint.hint-index 0 c.loop-hint-test.true
