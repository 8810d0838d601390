use Rattle.phases.proofs.Rests.{last_phase}
use Rattle.phases.proofs.laws.last_phase.Goals as goal

pub returns : goal.returns
returns c = last_phase
