use Rattle.std.proofs.Common.{◌∙◌, arith}
use Rattle.formula_tables.proofs.VariableNumbers.{same_there, same_unused, same_out}
use Rattle.formula_tables.proofs.variables.Variables.place_of_same.Goals as goal

pub returns-then-bits-eq0 : goal.returns-then-bits-eq0
returns-then-bits-eq0 c =
    c.count.ensures.same ∙ same_out c.args.self.now c.args.first c.args.second c.args.bits (λ x _. omega (arith, x, c.if-bits-eq0.true))

pub returns-then-bits-size : goal.returns-then-bits-size
returns-then-bits-size c =
    c.count-then-bits-size.ensures.same ∙ same_out c.args.self.now c.args.first c.args.second c.args.bits (λ _ y. omega (arith, y, c.clock_size-size.ensures.same, c.if-bits-size.true))

pub returns-then-place-pairs : goal.returns-then-place-pairs
returns-then-place-pairs c =
    c.count-then-place-pairs.ensures.same ∙ same_unused c.args.self.now c.args.first c.args.second c.args.bits (omega (arith, c.pair_place-place.ensures, c.used_count-pairs.ensures.same, c.if-place-pairs.true))

pub returns : goal.returns
returns c =
    same_there c.args.self.now c.args.first c.args.second c.args.bits c.pair_place-place.result c.fact_count.result c.event_count.result c.clock_size-size.result c.pair_place-place.ensures
    (omega (arith, c.used_count-pairs.ensures.same, c.if-place-pairs.false)) (omega (arith, c.if-bits-eq0.false)) c.if-bits-size.false c.fact_count.ensures.same c.event_count.ensures.same c.clock_size-size.ensures.same
