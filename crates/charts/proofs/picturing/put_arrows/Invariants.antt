use Rattle.std.proofs.Common.{◌≡◌, ◌++◌, take, slice_index}
use Rattle.std.specs.List.{flat_map}
use Rattle.charts.specs.Picture.{arrow_of}
use Rattle.charts.proofs.picturing.put_arrows.Given as goal

abbrev pub invariant-loop-step : goal.invariant-loop-step
invariant-loop-step l = l.out.items ≡ l.fn.out.items ++ flat_map (arrow_of l.well l.ranks l.calls l.placed.count (slice_index l.placed.issues.items) l.marks) (take l.step-index l.placed.steps.items)
