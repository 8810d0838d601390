use Rattle.leastrun.proofs.Waitings.{AreOpenBelow}
use Rattle.leastrun.proofs.along.open_calls.Given as goal

abbrev pub invariant-loop-call : goal.invariant-loop-call
invariant-loop-call l = AreOpenBelow l.program l.state l.call l.calls.items
