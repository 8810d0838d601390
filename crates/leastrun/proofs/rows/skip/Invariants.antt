use Rattle.leastrun.specs.parts.Queues.{IsSkipped}
use Rattle.leastrun.proofs.rows.skip.Given as goal

abbrev pub invariant-loop : goal.invariant-loop
invariant-loop l = IsSkipped l.state l.fn.row.items l.row.items
