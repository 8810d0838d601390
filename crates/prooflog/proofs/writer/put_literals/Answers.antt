use Rattle.std.proofs.Common.{◌++◌, [], ◌∷◌, ◌∙◌}
use Rattle.prooflog.specs.Refutations.{literal_word}
use Rattle.plaintext.specs.Plain.{spaced}
use Rattle.prooflog.proofs.Writings.{one_spaced}
use Rattle.prooflog.proofs.writer.put_literals.Goals as goal

pub loop-literal-preserved : goal.loop-literal-preserved
loop-literal-preserved c =
    c.in_ok-put_literal.ensures ∙ (λ i. c.loop-literal.invariant i ++ spaced (literal_word (c.literal-item.is i) ∷ []))
    ∙ one_spaced literal_word c.args.out.now.items c.args.literals.now c.loop-literal.literal-index _ c.loop-literal-test.true
