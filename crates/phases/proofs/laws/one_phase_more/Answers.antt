use Rattle.phases.proofs.Rests.{one_phase_more}
use Rattle.phases.proofs.laws.one_phase_more.Goals as goal

pub returns : goal.returns
returns c = one_phase_more
