use Rattle.std.proofs.Common.{◌∙◌, subst, sym, IsTrue, List}
use Rattle.refutations.specs.declared.tree.Node.{Node}
use Rattle.refutations.specs.Proofs.{is_tree, are_numbered}
use Rattle.refutations.proofs.Preorders.{trees_pass}
use Rattle.trees.specs.parts.Preorders.{tree_below}
use Rattle.trees.proofs.Written.{root_hangs, numbered_below}
use Rattle.trees.proofs.tree.Tree.proof_tree.Goals as goal

pub unreachable-requires : goal.unreachable-requires
unreachable-requires c =
    let nodes = c.args.self.now.nodes in
    let numbers = c.args.numbers.now in
    let grown = c.variables-variables.ensures.grown in
    let tree = tree_below nodes numbers 0 in
    let hangs = root_hangs c.args.self.now.variables nodes numbers grown.grows in
    let numbered = numbered_below c.args.self.now.variables nodes numbers grown.grows grown.variables_fit c.requires.numbered tree 0 hangs in
    let made = c.in_ok-nodes.ensures in
    let wrong = c.in-Err.ensures.when.1 (
      subst (λ (ns : List Node). IsTrue (is_tree ns)) (sym made) (trees_pass tree),
      subst (λ (ns : List Node). IsTrue (are_numbered ns)) (sym made) numbered,
    ) in
    cc

pub returns : goal.returns
returns c =
    let nodes = c.args.self.now.nodes in
    let numbers = c.args.numbers.now in
    (tree_below nodes numbers 0, sym (c.in-Ok.ensures.made ∙ c.in_ok-nodes.ensures), root_hangs c.args.self.now.variables nodes numbers c.variables-variables.ensures.grown.grows)
