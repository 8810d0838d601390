use Rattle.std.proofs.Common.{◌≡◌, ◌++◌}
use Rattle.charts.specs.Chart.{columns, find_cell}
use Rattle.charts.proofs.charting.put_arrow.Given as goal

abbrev pub invariant-loop-rank : goal.invariant-loop-rank
invariant-loop-rank l = l.out.items ≡ l.fn.out.items ++ columns (find_cell l.ranks l.from l.to l.stroke) l.rank
