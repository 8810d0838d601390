use Rattle.std.proofs.Common.{◌≡◌, map}
use Rattle.std.proofs.lemmas.Result.{IfOk-weaker}
use Rattle.cubes.specs.Cubes.{match_variable, AreBranchingVariables}
use Rattle.cubes.proofs.CubeTrees.{matching_order_there, branching_variables_are}
use Rattle.cubes.proofs.splitting.branching_variables_in.Goals as goal

pub match_variables-requires-clause-there : goal.match_variables-requires-clause-there
match_variables-requires-clause-there c =
    matching_order_there c.args.encoded.now.program c.args.encoded.now.pairs c.pairs-pairs.result.now c.as_slice.result.now c.in_ok-order.order.items c.deref.result.now c.pairs-pairs.ensures.same c.pairs-pairs.ensures.are c.in_ok-order.ensures c.deref.ensures.value c.as_slice.ensures

pub returns : goal.returns
returns c =
    IfOk-weaker c.match_variables.result
    (λ made. made.items ≡ map (match_variable c.args.table.now) c.deref.result.now)
    (λ made. AreBranchingVariables c.args.encoded.now.program made.items)
    (λ made is.
    branching_variables_are c.args.encoded.now.program c.args.table.now c.args.encoded.now.pairs c.in_ok-order.order.items c.deref.result.now made.items
    c.in_ok-order.ensures c.pairs-pairs.ensures.are c.requires c.deref.ensures.value is)
    c.match_variables.ensures
