use Rattle.knowledge.specs.Knowledge.{with_partners}
use Rattle.clocks.proofs.Extending.{ordered_by_level}
use Rattle.clocks.proofs.rows.ordered_of.Goals as goal

pub returns : goal.returns
returns c = ordered_by_level c.args.program.now (with_partners c.args.partners.now) c.args.asked.now c.in_ok-known.known.ordered.items c.in_ok-known.ensures.rounds c.in_ok-known.ensures.orders
