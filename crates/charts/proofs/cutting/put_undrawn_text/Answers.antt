use Rattle.std.proofs.Common.{refl, append_assoc}
use Rattle.std.proofs.lemmas.Bool.{ne_eqb}
use Rattle.charts.proofs.cutting.put_undrawn_text.Goals as goal

pub returns : goal.returns
returns c = simp (append_assoc, ne_eqb c.args.count 0 c.if-count-eq0.false, c.in_ok-put_text-2.ensures, c.in_ok-put_words.ensures, c.in_ok-put_text.ensures) refl
