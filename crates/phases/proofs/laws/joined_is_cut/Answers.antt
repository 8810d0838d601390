use Rattle.phases.proofs.Joined.{joined_is_cut}
use Rattle.phases.proofs.laws.joined_is_cut.Goals as goal

pub returns : goal.returns
returns c = joined_is_cut
