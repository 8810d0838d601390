use Rattle.std.proofs.Common.{◌∙◌, string_bytes}
use Rattle.session.specs.Racing.{race_sentence}
use Rattle.session.proofs.RaceTexts.{same_parts}
use Rattle.session.proofs.racing.race_line.Goals as goal

pub returns : goal.returns
returns c =
    same_parts c.race_sentence.result string_bytes race_sentence _ _ _ _ _ _ (c.deref.ensures ∙ c.in_ok-finder.ensures) (c.deref-2.ensures ∙ c.in_ok-found.ensures)
    (c.deref-3.ensures ∙ c.in_ok-other.ensures) c.race_sentence.ensures
