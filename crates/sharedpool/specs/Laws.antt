-- What holds once all seats were handed back.
use Rattle.std.specs.Prelude.{ℕ, List, All}
use Rattle.pool.specs.Growth.{LosesNothing}
use Rattle.pool.specs.States.{PoolState, PoolWithHistory}
use Rattle.sharedpool.specs.Seats.{Chair, IsFinishedPool}

-- in each seat's list each accepted fetch tells every line past its start that the seat had
-- published or been told before
abbrev pub NothingSeenIsLost : Type 0
NothingSeenIsLost =
    (opening : PoolState) (seats : List Chair) (pool : PoolWithHistory) (counts : List ℕ) → IsFinishedPool opening seats pool counts
    → All (λ (seat : Chair). LosesNothing opening.formula seat.mine) seats
