use Rattle.std.proofs.Common.{◌≡◌, ◌+◌, ◌-◌}
use Rattle.std.specs.List.{find, range_with_len}
use Rattle.workers.specs.parts.Branching.{is_free}
use Rattle.workers.proofs.branching.first_below.Given as goal

abbrev pub invariant-loop-place : goal.invariant-loop-place
invariant-loop-place l = find (is_free l.path) (range_with_len 1 l.count) ≡ find (is_free l.path) (range_with_len (l.place + 1) (l.count - l.place))
