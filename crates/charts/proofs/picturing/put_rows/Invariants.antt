use Rattle.std.proofs.Common.{◌≡◌, ◌++◌, slice_index}
use Rattle.charts.specs.Chart.{columns}
use Rattle.charts.specs.Picture.{rank_row}
use Rattle.charts.proofs.picturing.put_rows.Given as goal

abbrev pub invariant-loop-rank : goal.invariant-loop-rank
invariant-loop-rank l = l.out.items ≡ l.fn.out.items ++ columns (rank_row l.program l.end l.calls l.placed.count (slice_index l.placed.issues.items) l.cycle) l.rank
