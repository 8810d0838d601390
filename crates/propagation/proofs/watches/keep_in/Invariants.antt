use Rattle.std.proofs.Common.{◌≤◌}
use Rattle.propagation.proofs.watches.keep_in.Given as goal

abbrev pub invariant-loop-read : goal.invariant-loop-read
invariant-loop-read l = l.end ≤ l.read
