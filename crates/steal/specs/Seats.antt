-- What contracts see of the seats of a deque.
use Rattle.std.specs.Prelude.{◌≡◌, ℕ, List}
use Rattle.std.specs.List.{flat_map}
use Rattle.crossbeam_deque.specs.Handles.{view, stealer_deque, worker_deque, worker_view}
use Rattle.steal.specs.declared.seats.OwnerSeat.{OwnerSeat}
use Rattle.steal.specs.declared.seats.ThiefSeat.{ThiefSeat}

-- the cubes that the owner has pushed, in order
abbrev pub pushed : OwnerSeat → List ℕ
pushed seat = (worker_view seat.owner).pushed

-- the cubes that the owner has popped, in order
abbrev pub popped : OwnerSeat → List ℕ
popped seat = (worker_view seat.owner).taken

-- the cubes that a thief has stolen, in order
abbrev pub stolen : ThiefSeat → List ℕ
stolen seat = (view seat.pass).taken

-- the cubes that all these thieves have stolen
abbrev pub stolen_by : List ThiefSeat → List ℕ
stolen_by seats = flat_map stolen seats

-- how many thieves the deque was made with
abbrev pub thief_count : OwnerSeat → ℕ
thief_count seat = seat.thieves

-- the thief takes from the owner's deque
abbrev pub IsThiefOf : OwnerSeat → ThiefSeat → Type 0
IsThiefOf owner thief = stealer_deque thief.thief ≡ worker_deque owner.owner

-- both are the owner of one deque
abbrev pub IsSameOwner : OwnerSeat → OwnerSeat → Type 0
IsSameOwner old new = (worker_deque new.owner ≡ worker_deque old.owner) × (new.thieves ≡ old.thieves)

-- both are thieves of one deque
abbrev pub IsSameThief : ThiefSeat → ThiefSeat → Type 0
IsSameThief old new = stealer_deque new.thief ≡ stealer_deque old.thief
