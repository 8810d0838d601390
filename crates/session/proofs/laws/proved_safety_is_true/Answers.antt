use Rattle.session.proofs.SearchLaws.{proved_never}
use Rattle.session.proofs.laws.proved_safety_is_true.Goals as goal

pub returns : goal.returns
returns c = proved_never
