use Rattle.prooflog.proofs.TreeDepths.{depths_are}
use Rattle.prooflog.proofs.laws.depths_are_of_the_tree.Goals as goal

pub returns : goal.returns
returns c = depths_are
