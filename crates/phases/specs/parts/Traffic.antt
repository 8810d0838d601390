-- Where messages are sent to and taken, and how many are, as it is counted in one pass.
use Rattle.std.specs.Prelude.{◌≡◌, ◌↔◌, ℕ, Bool, true, ◌==◌, if◌then◌else◌, List, length, Option, Some, None, slice_get}
use Rattle.std.specs.List.{count_by}
use Rattle.interning.specs.Places.{IsNumbering}
use Rattle.callorder.specs.declared.calls.Call.{Call}
use Rattle.callorder.specs.declared.calls.Kind.{Kind}
use Rattle.callorder.specs.declared.calls.Message.{Message}
use Rattle.callorder.specs.declared.calls.Pattern.{Pattern}
use Rattle.callorder.specs.Calls.{message_of, pattern_of, is_probe_kind}
use Rattle.phases.specs.declared.leaving.Address.{Address}
use Rattle.phases.specs.declared.leaving.Traffic.{Traffic}
use Rattle.phases.specs.Conditions.{is_send_to, is_taker_at}

abbrev pub address_found : ℕ → Option Pattern → Option Address
address_found rank None = None
address_found rank (Some pattern) = Some (record { rank = rank; communicator = pattern.communicator })

abbrev pub address_taken : ℕ → Kind ℕ → Option Address
address_taken rank kind = if is_probe_kind kind then None else address_found rank (pattern_of kind)

abbrev pub address_sent : ℕ → Kind ℕ → Option Message → Option Address
address_sent rank kind None = address_taken rank kind
address_sent rank kind (Some message) = Some (record { rank = message.destination; communicator = message.communicator })

-- the rank and the communicator of a send's message, or of a taker
abbrev pub address_of : Call → Option Address
address_of call = address_sent call.rank call.kind (message_of call.kind)

-- Numbers of names: two names have the same number exactly where they are equal. A test that tells
-- equal names is behind it.
pub record AreNumbers (names : List (Option Address)) (numbers : List (Option ℕ)) : Type 0 where
  pub test : Address → Address → Bool
  pub tests : (a b : Address) → (test a b ≡ true) ↔ (a ≡ b)
  pub numbering : IsNumbering test names numbers

-- so many of these calls send to the address, and so many take there
pub record IsTraffic (calls : List Call) (address : Address) (traffic : Traffic) : Type 0 where
  pub sent : traffic.sent ≡ count_by (is_send_to address.rank address.communicator) calls
  pub taken : traffic.taken ≡ count_by (is_taker_at address.rank address.communicator) calls

-- a table of what some of these calls send and take at each address that has a number
pub record AreTraffic (calls : List Call) (names : List (Option Address)) (numbers : List (Option ℕ)) (table : List Traffic) : Type 0 where
  pub size : length table ≡ length names
  pub each : (c number : ℕ) (address : Address) (traffic : Traffic) → slice_get names c ≡ Some (Some address) → slice_get numbers c ≡ Some (Some number) → slice_get table number ≡ Some traffic → IsTraffic calls address traffic

abbrev pub is_even : Option Traffic → Bool
is_even None = true
is_even (Some traffic) = traffic.sent == traffic.taken

-- as many messages are sent as are taken at the address of this number
abbrev pub is_even_at : List Traffic → Option ℕ → Bool
is_even_at table None = true
is_even_at table (Some number) = is_even (slice_get table number)
