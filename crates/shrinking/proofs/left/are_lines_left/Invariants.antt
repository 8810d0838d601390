use Rattle.std.proofs.Common.{◌≡◌, ℕ, ◌<◌, ◌∷◌, get_or}
use Rattle.shrinking.specs.Left.{IsLeftAt}
use Rattle.shrinking.proofs.left.are_lines_left.Given as goal

abbrev pub invariant-loop-place : goal.invariant-loop-place
invariant-loop-place l =
    (l.last ≡ get_or (0 ∷ l.numbers) l.place 0)
    × ((place : ℕ) → place < l.place → IsLeftAt l.fn.given l.fn.text l.numbers place)
