use Rattle.std.proofs.Common.{refl, append_assoc}
use Rattle.charts.proofs.picturing.put_told_waiting.Goals as goal

pub returns : goal.returns
returns c = simp (append_assoc, c.in_ok-put_waits_in.ensures, c.in_ok-put_bar.ensures, c.x_of.ensures.value, c.edge.ensures.value, c.in_ok-put_title.ensures) refl
