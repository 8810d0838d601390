use Rattle.leastrun.specs.parts.Queues.{IsPassed}
use Rattle.leastrun.proofs.tables.pass_send.Given as goal

abbrev pub invariant-loop-place : goal.invariant-loop-place
invariant-loop-place l = IsPassed l.state l.fn.sends l.sends
