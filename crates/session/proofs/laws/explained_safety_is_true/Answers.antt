use Rattle.session.proofs.SearchLaws.{explained_safe}
use Rattle.session.proofs.laws.explained_safety_is_true.Goals as goal

pub returns : goal.returns
returns c = explained_safe
