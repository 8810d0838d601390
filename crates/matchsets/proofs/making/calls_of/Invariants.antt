use Rattle.std.proofs.Common.{◌≤◌}
use Rattle.matchsets.proofs.making.calls_of.Given as goal

abbrev pub invariant-loop-call : goal.invariant-loop-call
invariant-loop-call l = l.first ≤ l.call
