use Rattle.std.proofs.Common.{◌++◌, ◌∙◌, map, ap}
use Rattle.plaintext.specs.Plain.{numeral, spaced}
use Rattle.prooflog.specs.Refutations.{literal_word}
use Rattle.exports.proofs.LratTexts.{line_text}
use Rattle.exports.proofs.lrat.put_line.Goals as goal

pub returns : goal.returns
returns c =
    line_text c.args.out.now.items _ _ _ _ _ c.args.line.now c.args.number
    c.in_ok-put_number.ensures
    (c.in_ok-put_literals.ensures ∙ ap (λ ls. c.put_number.new.out.items ++ spaced (map literal_word ls)) c.literals.ensures.same)
    c.in_ok-extend_from_slice.ensures.items
    (c.in_ok-put_hints.ensures ∙ ap (λ hs. c.extend_from_slice.new.self.items ++ spaced (map numeral hs)) c.hints.ensures.same)
    c.in_ok-extend_from_slice-2.ensures.items
