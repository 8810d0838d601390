use Rattle.std.proofs.Common.{◌≡◌, ◌++◌, take}
use Rattle.std.specs.List.{flat_map}
use Rattle.charts.specs.Picture.{box_of}
use Rattle.charts.proofs.picturing.put_boxes.Given as goal

abbrev pub invariant-loop-step : goal.invariant-loop-step
invariant-loop-step l = l.out.items ≡ l.fn.out.items ++ flat_map (box_of l.program l.end l.calls l.count) (take l.step-index l.steps)
