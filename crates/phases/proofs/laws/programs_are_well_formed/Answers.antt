use Rattle.phases.proofs.ManyPhases.{programs_are_well_formed}
use Rattle.phases.proofs.laws.programs_are_well_formed.Goals as goal

pub returns : goal.returns
returns c = programs_are_well_formed
