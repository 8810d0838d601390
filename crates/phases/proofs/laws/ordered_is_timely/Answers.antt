use Rattle.phases.proofs.Envelopes.{ordered_is_timely}
use Rattle.phases.proofs.laws.ordered_is_timely.Goals as goal

pub returns : goal.returns
returns c = ordered_is_timely
