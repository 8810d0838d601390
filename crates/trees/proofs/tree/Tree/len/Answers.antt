use Rattle.std.proofs.Common.{arith}
use Rattle.trees.proofs.Splits.{root_within}
use Rattle.trees.proofs.tree.Tree.len.Goals as goal

pub returns-clause-some : goal.returns-clause-some
returns-clause-some c =
    omega (arith, root_within c.self.inside.variables c.self.inside.nodes.items c.self.invariant.grows)
