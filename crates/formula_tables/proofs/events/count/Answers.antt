use Rattle.std.proofs.Common.{ap, length, arith}
use Rattle.formula_tables.proofs.EventSlots.{events_count}
use Rattle.formula_tables.proofs.events.count.Goals as goal

pub returns : goal.returns
returns c =
    omega (arith, events_count c.args.program.now, c.count_takers.ensures.same, ap length c.calls.ensures.value)
