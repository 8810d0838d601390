use Rattle.session.proofs.SearchLaws.{written_never}
use Rattle.session.proofs.laws.written_safety_is_refuted.Goals as goal

pub returns : goal.returns
returns c = written_never
