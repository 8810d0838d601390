use Rattle.std.proofs.Common.{◌≡◌, ◌++◌}
use Rattle.charts.specs.Chart.{columns, heading_cell}
use Rattle.charts.proofs.charting.put_heading.Given as goal

abbrev pub invariant-loop-rank : goal.invariant-loop-rank
invariant-loop-rank l = l.out.items ≡ l.fn.out.items ++ columns (heading_cell l.ranks) l.rank
