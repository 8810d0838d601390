use Rattle.std.proofs.Common.{◌≡◌, ◌∷◌, [], ◌++◌, ◌+◌, arith, ap, ◌∙◌}
use Rattle.trees.specs.Trees.{TreeState, split_at}
use Rattle.pool.specs.Counts.{open_count}
use Rattle.pool.proofs.OpenLeaves.{count_few}
use Rattle.pool.proofs.Soundness.{sound_with, sound_split, sound_split_to, count_after_split}
use Rattle.pool.proofs.keep.Pool.split_leaf.Goals as goal

pub overflow_add-self : goal.overflow_add-self
overflow_add-self c =
    omega (arith, c.self.invariant.1, count_few c.self.inside.tree.nodes c.self.inside.closed.items, c.self.invariant.0.grown.few)

pub invariant_of-self-3 : goal.invariant_of-self-3
invariant_of-self-3 c =
    let tree = c.self.inside.tree in
    let closed = c.self.inside.closed.items in
    let s = c.self.invariant.0 in
    let (is, room, variable) = c.in-None.ensures in
    let new_tree : c.split_open.new.tree ≡ record tree { nodes = split_at tree.nodes c.args.leaf c.args.variable } = c.in-Ok.ensures.split in
    let new_closed : c.split_open.new.closed.items ≡ closed ++ 0 ∷ 0 ∷ [] = c.in-Ok.ensures.open in
    let counted = count_after_split tree.nodes closed c.args.leaf c.args.variable s.many is.0 is.1 in
    let sound = sound_split _ c.args.leaf c.args.variable s is.0 variable.0 variable.1 room in
    let count : open_count c.split_open.new.tree.nodes c.split_open.new.closed.items ≡ open_count tree.nodes closed + 1 =
    ap (λ (t : TreeState). open_count t.nodes c.split_open.new.closed.items) new_tree
    ∙ ap (open_count (split_at tree.nodes c.args.leaf c.args.variable)) new_closed
    ∙ counted
    in (
      sound_with _ c.answer-2.new.self.reasons (sound_split_to _ c.args.leaf c.args.variable c.split_open.new.tree c.split_open.new.closed.items new_tree new_closed sound),
      omega (arith, c.self.invariant.1, count),
      c.self.invariant.2,
    )
