use Rattle.std.proofs.Common.{ℕ, List, [], ◌∷◌, ◌++◌, ap, ◌∙◌}
use Rattle.std.specs.Prelude.{codes}
use Rattle.plaintext.specs.Plain.{numeral, spaced}
use Rattle.exports.specs.Dimacs.{meaning_words}
use Rattle.exports.proofs.Texts.{line_end, more_words}
use Rattle.exports.proofs.comments.put_comment.Goals as goal

pub returns : goal.returns
returns c =
    let p = c.args.program.now in
    let old = c.args.out.now.items in
    let number = numeral c.args.variable in
    let words = meaning_words p c.args.meaning.now in
    let first = c.in_ok-put_number.ensures ∙ ap (λ (t : List ℕ). t ++ spaced (number ∷ [])) c.in_ok-push.ensures.items in
    line_end old _ _ (codes "c") (number ∷ words) (more_words (old ++ codes "c") _ _ (number ∷ []) words first c.in_ok-put_meaning.ensures) c.in_ok-push-2.ensures.items
