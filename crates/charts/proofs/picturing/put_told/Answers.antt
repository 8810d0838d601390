use Rattle.std.proofs.Common.{refl, append_assoc}
use Rattle.charts.proofs.picturing.put_told.Goals as goal

pub returns : goal.returns
returns c = simp (append_assoc, c.in_ok-put_escaped.ensures, c.in_ok-put_parts.ensures, c.rank.ensures, c.line.ensures, c.words.ensures) refl
