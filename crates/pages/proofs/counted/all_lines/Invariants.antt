use Rattle.std.proofs.Common.{◌≡◌}
use Rattle.pages.proofs.counted.all_lines.Given as goal

abbrev pub invariant-loop-line : goal.invariant-loop-line
invariant-loop-line l = l.lines.items ≡ l.yielded
