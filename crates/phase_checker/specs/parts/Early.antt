-- Which phases of an order others follow, what could be sent to them too early, as keys of a table,
-- and how late it is sent.
use Rattle.std.specs.Prelude.{◌≡◌, ℕ, ◌+◌, ◌<◌, ◌≤◌, true, List, [], Option, Some, None, length, slice_get, get_or, Bool, false, ◌&&◌, ◌||◌, ◌==◌, nat_eq, if◌then◌else◌, max, unwrap_or}
use Rattle.std.specs.List.{list_any}
use Rattle.std.specs.Global.{Vec}
use Rattle.sealing.specs.declared.loose.Loose.{Loose}
use Rattle.sealing.specs.Sealing.{AreLoose}
use Rattle.phase_checker.specs.declared.phase.Phase.{Phase}
use Rattle.phase_checker.specs.declared.senders.Senders.{Senders}
use Rattle.phase_checker.specs.Dealing.{IsAt}
use Rattle.phase_checker.specs.parts.Parts.{IsFirstEarly}
use Rattle.std.specs.Option.{option_eq}
use Rattle.std.specs.HashMap as hash
use Rattle.callorder.specs.declared.calls.Call.{Call}
use Rattle.callorder.specs.declared.calls.Message.{Message}
use Rattle.callorder.specs.Calls.{message_of}

abbrev pub is_same : Loose → Loose → Bool
is_same a b = a.source == b.source && (a.destination == b.destination && (a.communicator == b.communicator && option_eq nat_eq a.tag b.tag))

-- what the message stands for where the finder names this tag, or none
abbrev pub key_of : ℕ → Message → Option ℕ → Loose
key_of rank message tag = record { source = rank; destination = message.destination; communicator = message.communicator; tag = tag }

abbrev pub is_message_of : Loose → ℕ → Option Message → Bool
is_message_of key rank None = false
is_message_of key rank (Some message) = is_same (key_of rank message None) key || is_same (key_of rank message (Some message.tag)) key

-- the call is a send that the key stands for
abbrev pub is_sent : Loose → Call → Bool
is_sent key call = is_message_of key call.rank (message_of call.kind)

-- the last place at which what the key stands for is sent, or 0
abbrev pub place_sent : Senders → Loose → ℕ
place_sent senders key = unwrap_or (hash.get is_same senders.places key) 0

-- what passes the test is sent at this place too
abbrev pub IsRaisedToPlace : (Loose → Bool) → ℕ → Senders → Senders → Type 0
IsRaisedToPlace test place old new = (key : Loose) → place_sent new key ≡ (if test key then max (place_sent old key) place else place_sent old key)

-- the last place of the order at which each of so many numbers stands, if there is one
pub record AreLast (count : ℕ) (order : List ℕ) (last : List (Option ℕ)) : Type 0 where
  pub size : length last ≡ count
  pub stands : (number place : ℕ) → get_or last number None ≡ Some place → slice_get order place ≡ Some number
  pub past : (place number : ℕ) → slice_get order place ≡ Some number → number < count → (at : ℕ) × (get_or last number None ≡ Some at) × (place ≤ at)

-- what could be sent too early to the phase at each place of the order but the last
pub record AreLooseEnds (phases : List Phase) (order : List ℕ) (ends : List (Vec Loose)) : Type 0 where
  pub size : length ends ≡ length phases
  pub each : (place number : ℕ) (phase : Phase) → place + 1 < length order → slice_get order place ≡ Some number → slice_get phases number ≡ Some phase
      → (list : Vec Loose) × (slice_get ends number ≡ Some list) × AreLoose phase.program list.items

-- Of what is sent behind the first place, the place is the last at which a phase sends it.
pub record AreSenders (phases : List Phase) (order : List ℕ) (senders : Senders) : Type 0 where
  pub sent : (key : Loose) → 0 < place_sent senders key
      → (phase : Phase) × IsAt phases order (place_sent senders key) phase × (list_any (is_sent key) phase.program.calls ≡ true)
  pub past : (key : Loose) (place : ℕ) (phase : Phase) → IsAt phases order place phase → list_any (is_sent key) phase.program.calls ≡ true
      → place ≤ place_sent senders key

-- the last place at which something of the list is sent, or 0
pub record IsReachOfList (senders : Senders) (list : List Loose) (reach : ℕ) : Type 0 where
  pub reached : 0 < reach → (place : ℕ) × (entry : Loose) × (slice_get list place ≡ Some entry) × (place_sent senders entry ≡ reach)
  pub past : (place : ℕ) (entry : Loose) → slice_get list place ≡ Some entry → place_sent senders entry ≤ reach

-- the reach of each list
pub record AreReachesOfLists (senders : Senders) (ends : List (Vec Loose)) (reaches : List ℕ) : Type 0 where
  pub size : length reaches ≡ length ends
  pub each : (number : ℕ) (list : Vec Loose) → slice_get ends number ≡ Some list → IsReachOfList senders list.items (get_or reaches number 0)

-- the first place of the order before the reach of the number that stands there, if there is one
abbrev pub IsFirstWithin : List ℕ → List ℕ → Option ℕ → Type 0
IsFirstWithin order reaches None = (place number : ℕ) → slice_get order place ≡ Some number → get_or reaches number 0 ≤ place
IsFirstWithin order reaches (Some at) =
    ((number : ℕ) × (slice_get order at ≡ Some number) × (at < get_or reaches number 0))
    × ((place number : ℕ) → place < at → slice_get order place ≡ Some number → get_or reaches number 0 ≤ place)

-- The claim holds of each order of phases that has this phase at the place, and this place as the
-- first one that is early.
abbrev pub HoldsAt : (List Phase → List ℕ → Type 0) → Option ℕ → ℕ → Phase → Type 0
HoldsAt claim early place phase = (phases : List Phase) (order : List ℕ) → IsFirstEarly phases order early → IsAt phases order place phase → claim phases order

-- nothing is in any of the lists
abbrev pub AreEmpty : List (Vec Loose) → Type 0
AreEmpty ends = (number : ℕ) (list : Vec Loose) → slice_get ends number ≡ Some list → list.items ≡ []
