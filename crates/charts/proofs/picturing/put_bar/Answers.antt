use Rattle.std.proofs.Common.{refl}
use Rattle.charts.proofs.picturing.put_bar.Goals as goal

pub returns : goal.returns
returns c = simp (c.in_ok-put_parts.ensures, c.saturating_sub.ensures) refl
