use Rattle.std.proofs.Common.{rules}
use Rattle.trees.proofs.proof_tree.proof_node.Goals as goal

pub returns-in-Split : goal.returns-in-Split
returns-in-Split c = search rules
