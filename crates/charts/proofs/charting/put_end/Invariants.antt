use Rattle.std.proofs.Common.{◌≡◌, ◌++◌}
use Rattle.charts.specs.Chart.{columns, end_cell}
use Rattle.charts.proofs.charting.put_end.Given as goal

abbrev pub invariant-loop-rank : goal.invariant-loop-rank
invariant-loop-rank l = l.out.items ≡ l.fn.out.items ++ columns (end_cell l.program l.end) l.rank
