use Rattle.std.proofs.Common.{◌≡◌, ℕ, ◌+◌, ◌≤◌, List, [], ◌∷◌, ◌++◌, length, take, get_or, ap, sym, ◌∙◌, arith}
use Rattle.std.proofs.lemmas.List.{length-take-le, take_more}
use Rattle.trees.specs.Trees.{TreeState}
use Rattle.cubes.specs.Levels.{full_tree}
use Rattle.cubes.proofs.FullTrees.{inner_of, root, leaves_are, first_there, few_nodes, short_paths, level_more, first_more}
use Rattle.cubes.proofs.levels.full_tree.Goals as goal

pub split_level-requires-clause-there : goal.split_level-requires-clause-there
split_level-requires-clause-there c =
    let so_far = take c.loop-variable.variable-index c.args.variables.now in
    first_there so_far c.loop-variable.first c.loop-variable.tree.nodes (ap (λ (t : TreeState). t.nodes) c.loop-variable.invariant.state) c.loop-variable.invariant.on_the_last

pub split_level-requires-clause-leaves : goal.split_level-requires-clause-leaves
split_level-requires-clause-leaves c =
    let so_far = take c.loop-variable.variable-index c.args.variables.now in
    leaves_are so_far c.loop-variable.first c.loop-variable.tree.nodes (ap (λ (t : TreeState). t.nodes) c.loop-variable.invariant.state) c.loop-variable.invariant.on_the_last

pub split_level-requires-clause-short : goal.split_level-requires-clause-short
split_level-requires-clause-short c =
    let so_far = take c.loop-variable.variable-index c.args.variables.now in
    let few : length so_far ≤ 14 = omega (arith, length-take-le c.loop-variable.variable-index c.args.variables.now (omega arith)) in
    short_paths so_far c.loop-variable.first c.loop-variable.tree.nodes (ap (λ (t : TreeState). t.nodes) c.loop-variable.invariant.state) c.loop-variable.invariant.on_the_last few

pub split_level-requires-clause-few : goal.split_level-requires-clause-few
split_level-requires-clause-few c =
    let so_far = take c.loop-variable.variable-index c.args.variables.now in
    let few : length so_far ≤ 14 = omega (arith, length-take-le c.loop-variable.variable-index c.args.variables.now (omega arith)) in
    few_nodes so_far c.loop-variable.first c.loop-variable.tree.nodes (ap (λ (t : TreeState). t.nodes) c.loop-variable.invariant.state) c.loop-variable.invariant.on_the_last few

pub loop-variable-preserved : goal.loop-variable-preserved
loop-variable-preserved c =
    let index = c.loop-variable.variable-index in
    let variables = c.args.variables.now in
    let so_far = take index variables in
    let variable = get_or variables index 0 in
    let nodes = c.loop-variable.tree.nodes in
    let is = ap (λ (t : TreeState). t.nodes) c.loop-variable.invariant.state in
    let more : take (index + 1) variables ≡ so_far ++ variable ∷ [] = take_more variables index 0 (omega arith) in
    let nodes_after = level_more so_far c.loop-variable.first nodes is c.loop-variable.invariant.on_the_last variable ∙ ap full_tree (sym more) in
    record {
      state = c.in_ok-split_level.ensures ∙ (λ t. record { variables = (c.loop-variable.invariant.state t).variables; nodes = nodes_after t });
      on_the_last = c.len-end.ensures.same ∙ first_more so_far c.loop-variable.first nodes is c.loop-variable.invariant.on_the_last variable ∙ ap (λ (vs : List ℕ). length (inner_of 0 vs root)) (sym more);
    }
