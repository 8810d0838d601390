use Rattle.std.proofs.Common.{refl}
use Rattle.charts.proofs.picturing.put_box_head.Goals as goal

pub returns : goal.returns
returns c = simp (c.in_ok-put_parts.ensures, c.x_of.ensures.value, c.y_of.ensures.value) refl
