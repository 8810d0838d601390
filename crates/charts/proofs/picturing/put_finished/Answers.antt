use Rattle.std.proofs.Common.{refl}
use Rattle.charts.proofs.picturing.put_finished.Goals as goal

pub returns : goal.returns
returns c = simp (c.in_ok-put_parts.ensures, c.edge.ensures.value, c.edge-2.ensures.value) refl
