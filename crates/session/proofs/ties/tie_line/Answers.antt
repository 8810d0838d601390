use Rattle.std.proofs.Common.{◌∙◌, string_bytes}
use Rattle.session.specs.Ties.{tie_sentence}
use Rattle.session.proofs.RaceTexts.{same_parts}
use Rattle.session.proofs.ties.tie_line.Goals as goal

pub returns : goal.returns
returns c =
    same_parts c.tie_sentence.result string_bytes tie_sentence _ _ _ _ _ _ (c.deref.ensures ∙ c.in_ok-size.ensures) (c.deref-2.ensures ∙ c.in_ok-finder.ensures)
    (c.deref-3.ensures ∙ c.in_ok-send.ensures) c.tie_sentence.ensures
