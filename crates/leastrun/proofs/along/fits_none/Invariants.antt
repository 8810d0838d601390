use Rattle.std.proofs.Common.{◌≡◌, ◌<◌, ℕ, true, Some, slice_get}
use Rattle.callorder.specs.Programs.{are_fit}
use Rattle.leastrun.proofs.along.fits_none.Given as goal

abbrev pub invariant-loop-place : goal.invariant-loop-place
invariant-loop-place l = (j finder : ℕ) → j < l.place → slice_get l.calls j ≡ Some finder → are_fit l.program l.send finder ≡ true → ⊥
