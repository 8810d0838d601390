use Rattle.std.proofs.Common.{refl}
use Rattle.charts.proofs.picturing.put_head.Goals as goal

pub returns : goal.returns
returns c = simp (c.in_ok-put_parts.ensures, c.end_words.ensures, c.number_of-number.ensures) refl
