use Rattle.std.proofs.Common.{◌≡◌, ℕ, arith, [], ◌∷◌, ap, ◌∙◌, true, false, ◌+◌, length, List}
use Rattle.clauses.specs.Clauses.{Literal}
use Rattle.refutations.specs.Trees.{branch}
use Rattle.trees.specs.declared.tree.NodeKind.TheVariants.{Split}
use Rattle.trees.specs.Trees.{TreeNode, leaf_with}
use Rattle.trees.proofs.Grown.{split_made, path_read, path_read_before}
use Rattle.trees.proofs.tree.split_node.Goals as goal

pub returns-clause-ok : goal.returns-clause-ok
returns-clause-ok c =
    let nodes : List TreeNode = c.args.nodes.now.items in
    let first = c.in_ok-first.first in
    let second = c.in_ok-second.second in
    let path_one = path_read nodes c.args.leaf c.index.result.now c.requires.there c.index.ensures in
    let path_two = path_read nodes c.args.leaf c.index-2.result.now c.requires.there c.index-2.ensures in
    let path_three = path_read_before nodes c.push_two.new.nodes.items (first ∷ second ∷ []) c.args.leaf c.index_mut.result.now c.requires.there c.in_ok-push_two.ensures.ok c.index_mut.ensures.value in
    let count : c.len-count.result ≡ length nodes = omega (arith, c.len-count.ensures) in
    split_made nodes c.push_two.new.nodes.items c.args.leaf c.args.variable first second c.make_split.new.node c.requires.there c.in_ok-push_two.ensures.ok
    (c.in_ok-first.ensures ∙ ap (λ (path : List Literal). leaf_with (branch c.args.variable true path)) path_one)
    (c.in_ok-second.ensures ∙ ap (λ (path : List Literal). leaf_with (branch c.args.variable false path)) path_two)
    (c.make_split.ensures
    ∙ ap (λ (n : ℕ). record { path = c.index_mut.result.now.path; kind = Split c.args.variable n (n + 1) }) count
    ∙ ap (λ (path : List Literal). record { path = path; kind = Split c.args.variable (length nodes) (length nodes + 1) }) path_three)
