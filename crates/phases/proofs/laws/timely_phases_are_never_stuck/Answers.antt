use Rattle.phases.proofs.ManyPhases.{timely_phases_are_never_stuck}
use Rattle.phases.proofs.laws.timely_phases_are_never_stuck.Goals as goal

pub returns : goal.returns
returns c = timely_phases_are_never_stuck
