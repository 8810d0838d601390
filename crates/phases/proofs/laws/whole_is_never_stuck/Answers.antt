use Rattle.phases.proofs.Walks.{whole_is_never_stuck}
use Rattle.phases.proofs.laws.whole_is_never_stuck.Goals as goal

pub returns : goal.returns
returns c = whole_is_never_stuck
