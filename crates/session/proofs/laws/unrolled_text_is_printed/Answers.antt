use Rattle.session.proofs.UnrollLaws.{unrolled}
use Rattle.session.proofs.laws.unrolled_text_is_printed.Goals as goal

pub returns : goal.returns
returns c = unrolled
