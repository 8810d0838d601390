use Rattle.phases.proofs.Joining.{join_is_joined}
use Rattle.phases.proofs.laws.join_is_joined.Goals as goal

pub returns : goal.returns
returns c = join_is_joined
