use Rattle.std.proofs.Common.{◌≡◌, ◌++◌}
use Rattle.charts.specs.Chart.{columns}
use Rattle.charts.specs.Picture.{arc_at}
use Rattle.charts.proofs.picturing.put_arcs.Given as goal

abbrev pub invariant-loop-place : goal.invariant-loop-place
invariant-loop-place l = l.out.items ≡ l.fn.out.items ++ columns (arc_at l.ranks l.count l.cycle) l.place
