-- Channels, and how many messages are sent and taken in each. Calls are named by their place, from
-- 0, in the program's list. A taker is a receive or a matched probe.
use Rattle.std.specs.Prelude.{◌≡◌, ◌≢◌, ◌⊎◌, ◌<◌, ℕ, Bool, false, ◌&&◌, ◌==◌, IsTrue, List, length, Option, Some, None, is_some, is_none, slice_get, if◌then◌else◌}
use Rattle.std.specs.List.{list_any}
use Rattle.callorder.specs.declared.calls.Call.{Call}
use Rattle.callorder.specs.declared.calls.Message.{Message}
use Rattle.callorder.specs.declared.calls.Pattern.{Pattern}
use Rattle.callorder.specs.Calls.{message_of, pattern_of, is_probe_kind}
use Rattle.callorder.specs.Programs.{MpiProgram, call_at}
use Rattle.balance.specs.declared.channels.Channel.{Channel}
use Rattle.balance.specs.declared.counting.Imbalance.{Imbalance}

-- what a receive or a matched probe takes
abbrev pub taken_by : Call → Option Pattern
taken_by call = if is_probe_kind call.kind then None else pattern_of call.kind

abbrev pub takes_any_source_as : ℕ → ℕ → ℕ → Option Pattern → Bool
takes_any_source_as destination communicator rank None = false
takes_any_source_as destination communicator rank (Some pattern) =
    rank == destination && pattern.communicator == communicator && is_none pattern.source

-- the call takes messages of any source, to this rank and on this communicator
abbrev pub leaves_source_open : ℕ → ℕ → Call → Bool
leaves_source_open destination communicator call = takes_any_source_as destination communicator call.rank (taken_by call)

abbrev pub takes_any_tag_as : ℕ → ℕ → ℕ → Option Pattern → Bool
takes_any_tag_as destination communicator rank None = false
takes_any_tag_as destination communicator rank (Some pattern) =
    rank == destination && pattern.communicator == communicator && is_none pattern.tag

-- the call takes messages of any tag, to this rank and on this communicator
abbrev pub takes_any_tag : ℕ → ℕ → Call → Bool
takes_any_tag destination communicator call = takes_any_tag_as destination communicator call.rank (taken_by call)

-- The channel to this rank, on this communicator. Its source counts only where no taker there takes
-- any source, and its tag only where none takes any tag.
abbrev pub channel_to : MpiProgram → ℕ → ℕ → Option ℕ → Option ℕ → Channel
channel_to p destination communicator source tag =
    record {
      destination = destination;
      communicator = communicator;
      source = if list_any (leaves_source_open destination communicator) p.calls then None else source;
      tag = if list_any (takes_any_tag destination communicator) p.calls then None else tag;
    }

abbrev pub channel_taken : MpiProgram → ℕ → Option Pattern → Option Channel
channel_taken p rank None = None
channel_taken p rank (Some pattern) = Some (channel_to p rank pattern.communicator pattern.source pattern.tag)

abbrev pub channel_sent : MpiProgram → Call → Option Message → Option Channel
channel_sent p call None = channel_taken p call.rank (taken_by call)
channel_sent p call (Some message) = Some (channel_to p message.destination message.communicator (Some call.rank) (Some message.tag))

-- the channel of a send or of a taker
abbrev pub channel_of : MpiProgram → Call → Option Channel
channel_of p call = channel_sent p call (message_of call.kind)

abbrev pub channel_of_call : MpiProgram → Option Call → Option Channel
channel_of_call p None = None
channel_of_call p (Some call) = channel_of p call

-- the channel of the send or the taker at a place
abbrev pub channel_at : MpiProgram → ℕ → Option Channel
channel_at p c = channel_of_call p (call_at p c)

abbrev pub is_send_call : Option Call → Bool
is_send_call None = false
is_send_call (Some call) = is_some (message_of call.kind)

-- the call at the place is a send
abbrev pub is_send_at : MpiProgram → ℕ → Bool
is_send_at p c = is_send_call (call_at p c)

-- These are the places that pass a test, each once.
pub record ArePlacesWhere (test : ℕ → Type 0) (places : List ℕ) : Type 0 where
  pub sound : (i c : ℕ) → slice_get places i ≡ Some c → test c
  pub all : (c : ℕ) → test c → (i : ℕ) × (slice_get places i ≡ Some c)
  pub once : (i j c : ℕ) → slice_get places i ≡ Some c → slice_get places j ≡ Some c → i ≡ j

abbrev pub IsSendInChannel : MpiProgram → Channel → ℕ → Type 0
IsSendInChannel p channel c = (channel_at p c ≡ Some channel) × IsTrue (is_send_at p c)

abbrev pub IsTakerIn : MpiProgram → Channel → ℕ → Type 0
IsTakerIn p channel c = (channel_at p c ≡ Some channel) × (is_send_at p c ≡ false)

-- all sends and all takers of one channel
pub record AreSides (p : MpiProgram) (channel : Channel) (sides : Imbalance) : Type 0 where
  pub sends : ArePlacesWhere (IsSendInChannel p channel) sides.sends.items
  pub takers : ArePlacesWhere (IsTakerIn p channel) sides.takers.items

-- the sends and the takers of one channel, which differ in number
pub record IsImbalance (p : MpiProgram) (sides : Imbalance) : Type 0 where
  pub channel : Channel
  pub are : AreSides p channel sides
  pub differ : length sides.sends.items ≢ length sides.takers.items

-- the places rise
abbrev pub Rise : List ℕ → Type 0
Rise places = (i j c d : ℕ) → i < j → slice_get places i ≡ Some c → slice_get places j ≡ Some d → c < d

-- the call at the place is one of these sends and takers
abbrev pub IsAmongSides : Imbalance → ℕ → Type 0
IsAmongSides sides c = ((i : ℕ) × (slice_get sides.sends.items i ≡ Some c)) ⊎ ((i : ℕ) × (slice_get sides.takers.items i ≡ Some c))

-- Each channel whose sends and takers differ in number is told once, and no other one; the calls of
-- each rise, and the channels stand in the order of their first calls: before each call of a
-- channel is one of each channel that is told before.
pub record AreImbalances (p : MpiProgram) (told : List Imbalance) : Type 0 where
  pub each : (i : ℕ) (sides : Imbalance) → slice_get told i ≡ Some sides → IsImbalance p sides
  pub all : (channel : Channel) (sends takers : List ℕ) → ArePlacesWhere (IsSendInChannel p channel) sends → ArePlacesWhere (IsTakerIn p channel) takers → length sends ≢ length takers
      → (i : ℕ) × (told_sides : Imbalance) × (slice_get told i ≡ Some told_sides) × AreSides p channel told_sides
  pub once : (i j : ℕ) (channel : Channel) (one other : Imbalance) → slice_get told i ≡ Some one → slice_get told j ≡ Some other
      → AreSides p channel one → AreSides p channel other → i ≡ j
  pub rise : (i : ℕ) (sides : Imbalance) → slice_get told i ≡ Some sides → Rise sides.sends.items × Rise sides.takers.items
  pub in_order : (i j c : ℕ) (first later : Imbalance) → i < j → slice_get told i ≡ Some first → slice_get told j ≡ Some later → IsAmongSides later c
      → (earlier : ℕ) × (earlier < c) × IsAmongSides first earlier
