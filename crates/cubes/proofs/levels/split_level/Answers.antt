use Rattle.std.proofs.Common.{◌<◌, length, arith, ◌∙◌}
use Rattle.cubes.proofs.LevelSteps.{next_is_leaf, next_few, next_short, next_state}
use Rattle.cubes.proofs.levels.split_level.Goals as goal

pub split_leaf-requires-clause-leaf : goal.split_leaf-requires-clause-leaf
split_leaf-requires-clause-leaf c =
    let low : c.loop-leaf.leaf < length c.args.tree.now.nodes = omega (arith, c.len-end.ensures.same) in
    next_is_leaf c.args.first c.args.variable c.loop-leaf.leaf c.args.tree.now c.loop-leaf.tree c.requires.there c.requires.leaves c.loop-leaf.invariant.from low c.loop-leaf.invariant.state

pub split_leaf-requires-clause-few : goal.split_leaf-requires-clause-few
split_leaf-requires-clause-few c =
    let low : c.loop-leaf.leaf < length c.args.tree.now.nodes = omega (arith, c.len-end.ensures.same) in
    next_few c.args.first c.args.variable c.loop-leaf.leaf c.args.tree.now c.loop-leaf.tree c.requires.there c.requires.leaves c.loop-leaf.invariant.from low c.loop-leaf.invariant.state c.requires.few

pub split_leaf-requires-clause-short : goal.split_leaf-requires-clause-short
split_leaf-requires-clause-short c =
    let low : c.loop-leaf.leaf < length c.args.tree.now.nodes = omega (arith, c.len-end.ensures.same) in
    next_short c.args.first c.args.variable c.loop-leaf.leaf c.args.tree.now c.loop-leaf.tree c.requires.there c.requires.leaves c.loop-leaf.invariant.from low c.loop-leaf.invariant.state c.requires.short

pub loop-leaf-preserved : goal.loop-leaf-preserved
loop-leaf-preserved c =
    let low : c.loop-leaf.leaf < length c.args.tree.now.nodes = omega (arith, c.len-end.ensures.same) in
    record {
      from = omega arith;
      state = c.in_ok-split_leaf.ensures ∙ next_state c.args.first c.args.variable c.loop-leaf.leaf c.args.tree.now c.loop-leaf.tree c.requires.there c.requires.leaves c.loop-leaf.invariant.from low c.loop-leaf.invariant.state;
    }
