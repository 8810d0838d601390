use Rattle.std.proofs.Common.{◌≤◌}
use Rattle.propagation.proofs.visiting.visit_list.Given as goal

abbrev pub invariant-loop-read : goal.invariant-loop-read
invariant-loop-read l = l.kept ≤ l.read
