use Rattle.std.proofs.Common.{◌≡◌, ◌++◌, List, ℕ, length}
use Rattle.places.specs.Maps.{AreFrom}
use Rattle.places.specs.Woven.{AreCut, Piece, kept_of, told_of}
use Rattle.places.proofs.weaving.woven.Given as goal

abbrev pub invariant-loop-front : goal.invariant-loop-front
invariant-loop-front l =
    (map : List ℕ) → AreFrom map l.places
    → (pieces : List Piece) × AreCut l.form map pieces l.rest × (l.plain ≡ kept_of pieces ++ l.rest) × (l.out.items ≡ told_of pieces)

abbrev pub decreases-loop-front : goal.decreases-loop-front
decreases-loop-front l = length l.rest
