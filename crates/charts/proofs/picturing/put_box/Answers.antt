use Rattle.std.proofs.Common.{refl, append_assoc}
use Rattle.charts.proofs.picturing.put_box.Goals as goal

pub returns : goal.returns
returns c = simp (append_assoc, c.in_ok-put_text.ensures, c.in_ok-put_escaped.ensures, c.in_ok-put_parts.ensures, c.by_width.ensures.value, c.by_width-2.ensures.value, c.by_width-3.ensures.value) refl
