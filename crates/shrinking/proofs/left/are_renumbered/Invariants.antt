use Rattle.std.proofs.Common.{ℕ, ◌<◌, [], get_or, map}
use Rattle.shrinking.specs.Left.{IsSameWord}
use Rattle.shrinking.proofs.left.are_renumbered.Given as goal

abbrev pub invariant-loop-place : goal.invariant-loop-place
invariant-loop-place l = (i : ℕ) → i < l.place → IsSameWord l.first.now i (get_or (map (λ w. w.now) l.olds) i []) (get_or (map (λ w. w.now) l.news) i [])
