use Rattle.std.proofs.Common.{◌∙◌, arith}
use Rattle.formula_tables.proofs.VariableNumbers.{bit_there, bit_absent}
use Rattle.formula_tables.proofs.variables.Variables.place_of_bit.Goals as goal

pub returns-then-event-events : goal.returns-then-event-events
returns-then-event-events c =
    c.count.ensures.same ∙ bit_absent c.args.self.now c.args.event c.args.bit (λ x _. omega (arith, x, c.event_count-events.ensures.same, c.if-event-events.true))

pub returns-then-bit-size : goal.returns-then-bit-size
returns-then-bit-size c =
    c.count-then-bit-size.ensures.same ∙ bit_absent c.args.self.now c.args.event c.args.bit (λ _ y. omega (arith, y, c.clock_size-size.ensures.same, c.if-bit-size.true))

pub returns : goal.returns
returns c =
    bit_there c.args.self.now c.args.event c.args.bit c.fact_count.result c.clock_size-size.result
    (omega (arith, c.event_count-events.ensures.same, c.if-event-events.false)) (omega (arith, c.clock_size-size.ensures.same, c.if-bit-size.false))
    c.fact_count.ensures.same c.clock_size-size.ensures.same
