use Rattle.std.proofs.Common.{refl, append_assoc}
use Rattle.charts.proofs.picturing.put_row.Goals as goal

pub returns : goal.returns
returns c = simp (append_assoc, c.in_ok-put_name.ensures, c.is_in.ensures, c.in_ok-put_rank_end.ensures, c.in_ok-put_parts.ensures, c.y_of.ensures.value, c.ranks.ensures.value) refl
