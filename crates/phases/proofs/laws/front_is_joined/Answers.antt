use Rattle.phases.proofs.Rests.{front_is_joined}
use Rattle.phases.proofs.laws.front_is_joined.Goals as goal

pub returns : goal.returns
returns c = front_is_joined
