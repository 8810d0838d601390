use Rattle.std.proofs.Common.{◌∙◌, arith}
use Rattle.formula_tables.proofs.VariableNumbers.{order_there, order_absent}
use Rattle.formula_tables.proofs.variables.Variables.place_of_order.Goals as goal

pub returns-then-place-pairs : goal.returns-then-place-pairs
returns-then-place-pairs c =
    c.count.ensures.same ∙ order_absent c.args.self.now c.args.first c.args.second (omega (arith, c.pair_place-place.ensures, c.used_count-pairs.ensures.same, c.if-place-pairs.true))

pub returns : goal.returns
returns c =
    order_there c.args.self.now c.args.first c.args.second c.pair_place-place.result c.fact_count.result c.event_count.result c.clock_size-size.result c.pair_place-place.ensures
    (omega (arith, c.used_count-pairs.ensures.same, c.if-place-pairs.false)) c.fact_count.ensures.same c.event_count.ensures.same c.clock_size-size.ensures.same
