-- Rows of thieves, while seats are dealt out and come back.
use Rattle.std.specs.Prelude.{◌≡◌, ℕ, List, [], ◌∷◌, ◌++◌, map, length}
use Rattle.std.specs.List.{AllByRecursion}
use Rattle.std.specs.Global.{Vec}
use Rattle.steal.specs.declared.seats.OwnerSeat.{OwnerSeat}
use Rattle.steal.specs.declared.seats.ThiefSeat.{ThiefSeat}
use Rattle.steal.specs.Seats.{pushed, popped, stolen, thief_count, IsThiefOf}

abbrev pub thief_rows : List (Vec ThiefSeat) → List (List ThiefSeat)
thief_rows vecs = map (λ (row : Vec ThiefSeat). row.items) vecs

-- each row ends in its seat, behind what is left of it
pub data EndInSeats : List (List ThiefSeat) → List (List ThiefSeat) → List ThiefSeat → Type 0 where
  no_row : EndInSeats [] [] []
  one_row : {rows left : List (List ThiefSeat)} {seats : List ThiefSeat} (row : List ThiefSeat) (seat : ThiefSeat) → EndInSeats rows left seats → EndInSeats ((row ++ seat ∷ []) ∷ rows) (row ∷ left) (seat ∷ seats)

-- the owner of an empty deque that was made with so many thieves
abbrev pub IsFreshOwner : ℕ → OwnerSeat → Type 0
IsFreshOwner count owner = (pushed owner ≡ []) × (popped owner ≡ []) × (thief_count owner ≡ count)

-- so many thieves of the owner, which have stolen nothing
abbrev pub AreFreshThieves : ℕ → OwnerSeat → List ThiefSeat → Type 0
AreFreshThieves count owner row = (length row ≡ count) × AllByRecursion (λ thief. IsThiefOf owner thief × (stolen thief ≡ [])) row
