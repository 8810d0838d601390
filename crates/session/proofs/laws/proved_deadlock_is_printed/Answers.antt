use Rattle.session.proofs.SearchLaws.{proved_stuck}
use Rattle.session.proofs.laws.proved_deadlock_is_printed.Goals as goal

pub returns : goal.returns
returns c = proved_stuck
