-- Addresses, and what takers at an address leave open, as it is kept in a table.
use Rattle.std.specs.Prelude.{◌≡◌, ◌↔◌, ℕ, Bool, true, Option, Some, None, List, length, slice_get}
use Rattle.std.specs.List.{list_any}
use Rattle.interning.specs.Places.{IsNumbering}
use Rattle.callorder.specs.declared.calls.Call.{Call}
use Rattle.callorder.specs.declared.calls.Message.{Message}
use Rattle.callorder.specs.declared.calls.Pattern.{Pattern}
use Rattle.callorder.specs.Calls.{message_of}
use Rattle.balance.specs.declared.channels.ChannelAddress.{ChannelAddress}
use Rattle.balance.specs.declared.channels.TakerWildcards.{TakerWildcards}
use Rattle.balance.specs.Balance.{taken_by, leaves_source_open, takes_any_tag}

abbrev pub channel_address_taken : ℕ → Option Pattern → Option ChannelAddress
channel_address_taken rank None = None
channel_address_taken rank (Some pattern) = Some (record { destination = rank; communicator = pattern.communicator })

abbrev pub channel_address_sent : Call → Option Message → Option ChannelAddress
channel_address_sent call None = channel_address_taken call.rank (taken_by call)
channel_address_sent call (Some message) = Some (record { destination = message.destination; communicator = message.communicator })

-- the rank and the communicator of a send's message, or of a taker
abbrev pub channel_address_of : Call → Option ChannelAddress
channel_address_of call = channel_address_sent call (message_of call.kind)

-- Numbers of names: two names have the same number exactly where they are equal. A test that tells
-- equal names is behind it.
pub record AreNumbersOfNames {K : Type 0} (names : List (Option K)) (numbers : List (Option ℕ)) : Type 0 where
  pub test : K → K → Bool
  pub tests : (a b : K) → (test a b ≡ true) ↔ (a ≡ b)
  pub numbering : IsNumbering test names numbers

-- some of these calls take any source, or any tag, at the address
pub record IsWild (calls : List Call) (address : ChannelAddress) (loose : TakerWildcards) : Type 0 where
  pub source : loose.source ≡ list_any (leaves_source_open address.destination address.communicator) calls
  pub tag : loose.tag ≡ list_any (takes_any_tag address.destination address.communicator) calls

-- a table of what some of these calls leave open at each address that has a number
pub record AreWild (calls : List Call) (names : List (Option ChannelAddress)) (numbers : List (Option ℕ)) (table : List TakerWildcards) : Type 0 where
  pub size : length table ≡ length names
  pub each : (c number : ℕ) (address : ChannelAddress) (loose : TakerWildcards) → slice_get names c ≡ Some (Some address) → slice_get numbers c ≡ Some (Some number) → slice_get table number ≡ Some loose → IsWild calls address loose
