use Rattle.std.proofs.Common.{◌≡◌}
use Rattle.pages.proofs.log.paged.Given as goal

abbrev pub invariant-loop-line : goal.invariant-loop-line
invariant-loop-line l = l.log ≡ l.yielded
