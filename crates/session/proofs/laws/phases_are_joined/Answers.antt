use Rattle.session.proofs.PhaseLaws.{joined_phases}
use Rattle.session.proofs.laws.phases_are_joined.Goals as goal

pub returns : goal.returns
returns c = joined_phases
