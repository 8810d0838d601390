use Rattle.std.proofs.Common.{rules, ◌<◌, ◌∷◌, [], length, ℕ, Some, arith}
use Rattle.std.proofs.lemmas.List.Elements.{All-pop, All-same, All-cons, All-nil}
use Rattle.refutations.specs.BinaryTrees.{preorder}
use Rattle.trees.specs.parts.Preorders.{tree_below}
use Rattle.trees.proofs.Written.{one_written, less_left, within_more}
use Rattle.trees.proofs.proof_tree.preorder.Goals as goal

pub loop-node-init : goal.loop-node-init
loop-node-init c = record {
  whole = search rules;
  within =
      let is_node = λ (n : ℕ). n < length c.args.tree.now.nodes in
      All-same is_node c.push.new.self.items (0 ∷ []) (search rules) (All-cons is_node 0 [] (omega (arith, c.len.ensures.some)) (All-nil is_node));
}

pub loop-node-smaller : goal.loop-node-smaller
loop-node-smaller c =
    less_left c.args.tree.now.variables c.args.tree.now.nodes c.args.numbers.now c.kind_of-kind.ensures.grown.grows c.loop-node.waiting.items c.pop.new.self.items c.push_below.new.waiting.items c.in-Some.node c.kind_of-kind.result c.in-Some.ensures.items c.kind_of-kind.ensures.same c.in_ok-push_below.ensures

pub loop-node-preserved : goal.loop-node-preserved
loop-node-preserved c =
    let nodes = c.args.tree.now.nodes in
    let numbers = c.args.numbers.now in
    let kind = c.kind_of-kind.result in
    let front = c.pop.new.self.items in
    let after = c.push_below.new.waiting.items in
    let is_node = λ (n : ℕ). n < length nodes in
    record {
      whole = one_written c.args.tree.now.variables nodes numbers c.kind_of-kind.ensures.grown.grows (preorder (tree_below nodes numbers 0)) c.loop-node.nodes.items c.push-in-Some.new.self.items c.loop-node.waiting.items front after c.in-Some.node kind c.proof_node.result
          c.loop-node.invariant.whole c.in-Some.ensures.items c.kind_of-kind.ensures.same c.in_ok-push-2.ensures.items c.proof_node.ensures c.in_ok-push_below.ensures;
      within = within_more c.args.tree.now.variables nodes numbers c.kind_of-kind.ensures.grown.grows front after c.in-Some.node kind
          (All-pop is_node c.loop-node.waiting.items front (Some c.in-Some.node) c.in-Some.ensures.items c.loop-node.invariant.within).0 c.kind_of-kind.ensures.same c.in_ok-push_below.ensures;
    }
