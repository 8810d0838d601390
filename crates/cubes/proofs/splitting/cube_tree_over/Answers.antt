use Rattle.std.proofs.Common.{◌≡◌, length, min, take, ap, sym, ◌∙◌, arith}
use Rattle.std.proofs.lemmas.Result.{IfOk-weaker}
use Rattle.callorder.specs.Programs.{MpiProgram}
use Rattle.candidates.specs.Pairs.{pairs_of}
use Rattle.clauses.specs.Clauses.{Conjunction}
use Rattle.formula.specs.Numbering.{formula_of}
use Rattle.trees.specs.Trees.{TreeState}
use Rattle.cubes.specs.Cubes.{IsCubeTree}
use Rattle.cubes.specs.Levels.{full_tree}
use Rattle.cubes.proofs.CubeTrees.{matching_levels_there, variables_fit, cube_tree_made}
use Rattle.cubes.proofs.splitting.cube_tree_over.Goals as goal

pub match_variables-requires-clause-there : goal.match_variables-requires-clause-there
match_variables-requires-clause-there c =
    matching_levels_there c.args.encoded.now.program c.args.encoded.now.pairs c.pairs-pairs.result.now c.as_slice.result.now c.in_ok-order.order.items c.deref.result.now c.min-levels.result c.pairs-pairs.ensures.same c.pairs-pairs.ensures.are c.in_ok-order.ensures c.deref.ensures.value c.as_slice.ensures

pub full_tree-requires-clause-within : goal.full_tree-requires-clause-within
full_tree-requires-clause-within c =
    let p = c.args.table.now in
    let program : c.args.encoded.now.program ≡ p = sym c.requires.same in
    let are : c.pairs-pairs.result.now ≡ pairs_of p = c.pairs-pairs.ensures.same ∙ c.pairs-pairs.ensures.are ∙ ap pairs_of program in
    let most : c.count_variables.result ≡ (formula_of p).variables =
    c.count_variables.ensures.same
    ∙ ap (λ (f : Conjunction). f.variables) c.count_variables.ensures.are
    ∙ ap (λ (q : MpiProgram). (formula_of q).variables) program
    in
    let there = matching_levels_there c.args.encoded.now.program c.args.encoded.now.pairs c.pairs-pairs.result.now c.as_slice.result.now c.in_ok-order.order.items c.deref.result.now c.min-levels.result c.pairs-pairs.ensures.same c.pairs-pairs.ensures.are c.in_ok-order.ensures c.deref.ensures.value c.as_slice.ensures in
    variables_fit p c.pairs-pairs.result.now c.as_slice.result.now (take c.min-levels.result c.deref.result.now) c.in_ok-variables.variables.items c.deref-2.result.now c.count_variables.result are c.as_slice.ensures there c.in_ok-variables.ensures c.deref-2.ensures.value most

pub returns : goal.returns
returns c =
    let count : c.count_variables.result ≡ c.args.encoded.now.formula.variables = c.count_variables.ensures.same in
    let levels : c.min-levels.result ≡ min (length c.in_ok-order.order.items) c.args.depth = omega (arith, c.min-levels.ensures, c.len.ensures) in
    IfOk-weaker c.full_tree.result
    (λ (tree : TreeState). tree ≡ record { variables = c.count_variables.result; nodes = full_tree c.deref-2.result.now })
    (λ (tree : TreeState). IsCubeTree c.args.encoded.now c.args.depth tree)
    (λ tree is.
    cube_tree_made c.args.encoded.now c.args.depth tree c.args.table.now c.in_ok-order.order.items c.deref.result.now c.in_ok-variables.variables.items c.deref-2.result.now c.min-levels.result c.count_variables.result
    c.in_ok-order.ensures c.requires.same c.deref.ensures.value levels c.in_ok-variables.ensures c.deref-2.ensures.value count is)
    c.full_tree.ensures
