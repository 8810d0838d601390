use Rattle.std.proofs.Common.{rules}
use Rattle.trees.proofs.tree.branch.Goals as goal

pub returns : goal.returns
returns c = search rules
