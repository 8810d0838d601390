use Rattle.session.proofs.SearchLaws.{explained_unknown}
use Rattle.session.proofs.laws.explained_unknown_finishes.Goals as goal

pub returns : goal.returns
returns c = explained_unknown
