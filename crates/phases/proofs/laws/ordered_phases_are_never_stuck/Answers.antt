use Rattle.phases.proofs.ManyPhases.{ordered_phases_are_never_stuck}
use Rattle.phases.proofs.laws.ordered_phases_are_never_stuck.Goals as goal

pub returns : goal.returns
returns c = ordered_phases_are_never_stuck
