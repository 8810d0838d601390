use Rattle.std.proofs.Common.{◌≡◌, ◌++◌}
use Rattle.charts.specs.Chart.{columns, issue_cell}
use Rattle.charts.proofs.charting.put_issue_row.Given as goal

abbrev pub invariant-loop-rank : goal.invariant-loop-rank
invariant-loop-rank l = l.out.items ≡ l.fn.out.items ++ columns (issue_cell l.ranks l.owner l.mark) l.rank
