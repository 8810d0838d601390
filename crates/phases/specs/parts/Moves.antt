-- Places of a program that move on by the calls of its parts.
use Rattle.std.specs.Prelude.{◌≡◌, ℕ, ◌+◌, ◌-◌, ◌<◌, ◌≤◌, List, length, take, get_or, slice_get, Some}
use Rattle.callorder.specs.declared.calls.Call.{Call}
use Rattle.callorder.specs.Programs.{MpiProgram, call_at}
use Rattle.phases.specs.CallPlaces.{moved_call}
use Rattle.phases.specs.Rests.{calls_by}

-- each rank's place has moved on by as many places as these calls are of the rank
pub record IsMovedOn (calls : List Call) (old new : List ℕ) : Type 0 where
  pub size : length new ≡ length old
  pub each : (rank : ℕ) → rank < length old → get_or new rank 0 ≡ get_or old rank 0 + calls_by rank calls

-- the call, which stands at a place of a part, is the program's at another place where all calls of
-- its rank stand as many places further on
pub record StandsAt (p : MpiProgram) (at : ℕ) (call : Call) (place : ℕ) : Type 0 where
  pub no_earlier : place ≤ at
  pub there : call_at p at ≡ Some (moved_call (at - place) call)

-- so many calls of a part, the first, stand in the program, those of each rank from its place on
pub record StandFirst (p : MpiProgram) (calls : List Call) (next : List ℕ) (count : ℕ) : Type 0 where
  pub within : count ≤ length calls
  pub each : (c : ℕ) (call : Call) → c < count → slice_get calls c ≡ Some call → StandsAt p (get_or next call.rank 0 + calls_by call.rank (take c calls)) call c
