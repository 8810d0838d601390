use Rattle.phases.proofs.Clean.{named_is_timely}
use Rattle.phases.proofs.laws.named_is_timely.Goals as goal

pub returns : goal.returns
returns c = named_is_timely
