-- What contracts see of the supplies of several workers, and at which deques they have seats.
use Rattle.std.specs.Prelude.{◌≡◌, ℕ, Bool, List, ◌∷◌, ◌++◌, All, map, length, count_by}
use Rattle.std.specs.List.{AllZip, flat_map}
use Rattle.steal.specs.declared.seats.OwnerSeat.{OwnerSeat}
use Rattle.steal.specs.declared.seats.ThiefSeat.{ThiefSeat}
use Rattle.steal.specs.declared.supply.Supply.{Supply}
use Rattle.steal.specs.Seats.{pushed, popped, stolen_by, thief_count, IsThiefOf, IsSameOwner, IsSameThief}
use Rattle.std.specs.Global.{Global}
use Rattle.atomic_blocks.specs.Lent.{RowsId}
use Rattle.crossbeam_deque.specs.Handles.{stealer_deque, worker_deque}

-- the cubes that a worker has put into its deque, in order
abbrev pub given : Supply → List ℕ
given s = pushed s.own

-- the cubes that it has taken: from its own deque, and then from each one as a thief
abbrev pub taken : Supply → List ℕ
taken s = popped s.own ++ stolen_by s.thieves.items

abbrev pub given_by : List Supply → List ℕ
given_by supplies = flat_map given supplies

abbrev pub taken_by_supplies : List Supply → List ℕ
taken_by_supplies supplies = flat_map taken supplies

abbrev pub owners_of : List Supply → List OwnerSeat
owners_of supplies = map (λ (s : Supply). s.own) supplies

-- a thief of each owner's deque, in order
abbrev pub AreThieves : List OwnerSeat → List ThiefSeat → Type 0
AreThieves owners thieves = AllZip IsThiefOf owners thieves

-- each has a thief at each one's deque, and there are no other thieves
abbrev pub AreSupplies : List Supply → Type 0
AreSupplies supplies = All (λ (s : Supply). AreThieves (owners_of supplies) s.thieves.items × (thief_count s.own ≡ length supplies)) supplies

-- both have seats at the same deques
pub record IsSameSupply (old new : Supply) : Type 0 where
  pub owner : IsSameOwner old.own new.own
  pub thieves : AllZip IsSameThief old.thieves.items new.thieves.items

-- the same cubes and this one, in any order
abbrev pub HasOneMore : List ℕ → ℕ → List ℕ → Type 0
HasOneMore old cube new = (p : ℕ → Bool) → count_by p new ≡ count_by p (cube ∷ old)

-- what worked with its own seats alone has left supplies that were dealt together as such
abbrev pub SuppliesStay : Type 0
SuppliesStay = (old new : List Supply) → AllZip IsSameSupply old new → AreSupplies old → AreSupplies new

abbrev pub DequeId : Type 0
DequeId = RowsId × Global

-- the deque of a supply's own, how many thieves that was made with, and those of its thieves
pub record Deques : Type 0 where
  pub own : DequeId
  pub count : ℕ
  pub thieves : List DequeId

abbrev pub deques_of : Supply → Deques
deques_of s = record { own = worker_deque s.own.owner; count = thief_count s.own; thieves = map (λ (t : ThiefSeat). stealer_deque t.thief) s.thieves.items }

-- each has a thief at each one's own deque, in order, and there are no other thieves
abbrev pub AreDealt : List Deques → Type 0
AreDealt all = All (λ (d : Deques). (d.thieves ≡ map (λ (e : Deques). e.own) all) × (d.count ≡ length all)) all
