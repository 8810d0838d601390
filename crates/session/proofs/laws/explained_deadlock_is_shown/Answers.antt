use Rattle.session.proofs.SearchLaws.{explained}
use Rattle.session.proofs.laws.explained_deadlock_is_shown.Goals as goal

pub returns : goal.returns
returns c = explained
