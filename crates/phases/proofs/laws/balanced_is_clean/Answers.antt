use Rattle.phases.proofs.Clean.{balanced_is_clean}
use Rattle.phases.proofs.laws.balanced_is_clean.Goals as goal

pub returns : goal.returns
returns c = balanced_is_clean
