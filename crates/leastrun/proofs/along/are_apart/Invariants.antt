use Rattle.std.proofs.Common.{◌≡◌, ◌<◌, ℕ, Some, slice_get}
use Rattle.leastrun.specs.parts.Along.{FitsNone}
use Rattle.leastrun.proofs.along.are_apart.Given as goal

abbrev pub invariant-loop-place : goal.invariant-loop-place
invariant-loop-place l = (i send : ℕ) → i < l.place → slice_get l.calls i ≡ Some send → FitsNone l.program send l.calls
