use Rattle.std.proofs.Common.{ℕ, ◌<◌}
use Rattle.narrowing.specs.Narrowed.{IsNarrowedAt}
use Rattle.narrowing.proofs.narrowed.is_narrowed.Given as goal

abbrev pub invariant-loop-place : goal.invariant-loop-place
invariant-loop-place l = (k : ℕ) → k < l.place → IsNarrowedAt l.program l.call l.way l.other k
