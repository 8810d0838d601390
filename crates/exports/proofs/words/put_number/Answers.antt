use Rattle.std.proofs.Common.{◌++◌, ◌∙◌}
use Rattle.plaintext.specs.Plain.{numeral}
use Rattle.exports.proofs.Texts.{one_word}
use Rattle.exports.proofs.words.put_number.Goals as goal

pub returns : goal.returns
returns c = c.in_ok-put_number.ensures ∙ (λ i. c.in_ok-push.ensures.items i ++ numeral c.args.number) ∙ one_word c.args.out.now.items (numeral c.args.number)
