use Rattle.std.proofs.Common.{◌≡◌, ℕ, ◌<◌, ◌≤◌, Some, slice_get, get_or}
use Rattle.phase_checker.proofs.early.first_within.Given as goal

abbrev pub invariant-loop-place : goal.invariant-loop-place
invariant-loop-place l = (other number : ℕ) → other < l.place → slice_get l.order other ≡ Some number → get_or l.reaches number 0 ≤ other
