use Rattle.std.proofs.Common.{refl, append_assoc}
use Rattle.charts.proofs.picturing.put_arc.Goals as goal

pub returns : goal.returns
returns c = simp (append_assoc, c.in_ok-put_arc_between.ensures, c.in_ok-put_arc_title.ensures, c.edge-x.ensures.value, c.bend.ensures.value, c.y_of-from_y.ensures.value, c.y_of-to_y.ensures.value) refl
