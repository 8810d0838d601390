use Rattle.std.proofs.Common.{◌≡◌, ◌<◌, ℕ, Some, false, slice_get}
use Rattle.leastrun.specs.parts.Waiting.{is_mate}
use Rattle.leastrun.proofs.lookup.first_mate.Given as goal

abbrev pub invariant-loop-place : goal.invariant-loop-place
invariant-loop-place l = (i e : ℕ) → i < l.place → slice_get l.row.items i ≡ Some e → is_mate l.program l.state l.call e ≡ false
