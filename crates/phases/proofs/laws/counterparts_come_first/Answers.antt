use Rattle.phases.proofs.Envelopes.{counterparts_come_first}
use Rattle.phases.proofs.laws.counterparts_come_first.Goals as goal

pub returns : goal.returns
returns c = counterparts_come_first
