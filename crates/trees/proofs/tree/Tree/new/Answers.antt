use Rattle.std.proofs.Common.{◌≡◌, [], ◌∷◌, rules}
use Rattle.trees.specs.Trees.{leaf_with}
use Rattle.trees.proofs.Grown.{grown_first}
use Rattle.trees.proofs.tree.Tree.new.Goals as goal

pub invariant_of-result : goal.invariant_of-result
invariant_of-result c =
    let are : c.push.new.self.items ≡ leaf_with [] ∷ [] = search rules in
    grown_first c.args.variables c.push.new.self.items c.requires are

pub returns : goal.returns
returns c = search rules
