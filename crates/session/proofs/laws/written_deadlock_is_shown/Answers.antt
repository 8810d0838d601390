use Rattle.session.proofs.SearchLaws.{written}
use Rattle.session.proofs.laws.written_deadlock_is_shown.Goals as goal

pub returns : goal.returns
returns c = written
