use Rattle.std.proofs.Common.{refl}
use Rattle.charts.proofs.picturing.put_top.Goals as goal

pub returns : goal.returns
returns c = simp (c.in_ok-put_head.ensures, c.edge.ensures.value, c.y_of.ensures.value) refl
