use Rattle.phases.proofs.ManyPhases.{named_phases_are_never_stuck}
use Rattle.phases.proofs.laws.named_phases_are_never_stuck.Goals as goal

pub returns : goal.returns
returns c = named_phases_are_never_stuck
