use Rattle.std.proofs.Common.{◌≤◌, length, map, take}
use Rattle.shrinking.specs.Left.{AreSome}
use Rattle.shrinking.proofs.left.are_some.Given as goal

abbrev pub invariant-loop-word : goal.invariant-loop-word
invariant-loop-word l = (l.place ≤ length l.news) × AreSome (take l.word-index (map (λ w. w.now) l.olds)) (take l.place (map (λ w. w.now) l.news))
