use Rattle.std.proofs.Common.{◌≡◌, ◌++◌, take}
use Rattle.std.specs.List.{flat_map}
use Rattle.charts.specs.Chart.{step_row}
use Rattle.charts.proofs.charting.put_rows.Given as goal

abbrev pub invariant-loop-act : goal.invariant-loop-act
invariant-loop-act l = l.out.items ≡ l.fn.out.items ++ flat_map (step_row l.ranks l.calls) (take l.act-index l.acts)
