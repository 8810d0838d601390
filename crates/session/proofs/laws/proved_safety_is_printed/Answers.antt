use Rattle.session.proofs.SearchLaws.{proved_safe}
use Rattle.session.proofs.laws.proved_safety_is_printed.Goals as goal

pub returns : goal.returns
returns c = proved_safe
