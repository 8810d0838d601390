use Rattle.std.proofs.Common.{◌≡◌, ◌++◌, take}
use Rattle.std.specs.List.{flat_map}
use Rattle.charts.specs.Lining.{act_line}
use Rattle.charts.proofs.lining.put_lines.Given as goal

abbrev pub invariant-loop-act : goal.invariant-loop-act
invariant-loop-act l = l.out.items ≡ l.fn.out.items ++ flat_map (act_line l.calls) (take l.act-index l.acts)
