use Rattle.phases.proofs.ManyPhases.{leaves_nothing_is_balanced}
use Rattle.phases.proofs.laws.leaves_nothing_is_balanced.Goals as goal

pub returns : goal.returns
returns c = leaves_nothing_is_balanced
