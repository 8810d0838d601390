use Rattle.std.proofs.Common.{refl, append_assoc}
use Rattle.charts.proofs.picturing.put_waits_in.Goals as goal

pub returns : goal.returns
returns c = simp (append_assoc, c.in_ok-put_text.ensures, c.in_ok-put_escaped.ensures, c.deref.ensures.value, c.in_ok-short.ensures, c.in_ok-put_parts.ensures, c.edge.ensures.value, c.line.ensures, c.words.ensures) refl
