use Rattle.std.proofs.Common.{refl, append_assoc}
use Rattle.charts.proofs.picturing.put_told_find.Goals as goal

pub returns : goal.returns
returns c = simp (append_assoc, c.in_ok-put_parts.ensures, c.stroke_of.ensures, c.number_of.ensures, c.dash_of.ensures, c.in_ok-put_way.ensures, c.rank.ensures, c.rank-2.ensures, c.in_ok-put_find_title.ensures) refl
