use Rattle.std.proofs.Common.{refl, append_assoc}
use Rattle.charts.proofs.picturing.put_title.Goals as goal

pub returns : goal.returns
returns c = simp (append_assoc, c.in_ok-put_text-2.ensures, c.in_ok-put_told.ensures, c.in_ok-put_text.ensures) refl
