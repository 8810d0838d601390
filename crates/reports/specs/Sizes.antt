-- The numbers of a program.
use Rattle.std.specs.Prelude.{ℕ, nat_lt, Bool, true, false, ◌&&◌, ◌||◌, is_some, List, length, Option, Some, None, is_none}
use Rattle.std.specs.List.{filter}
use Rattle.calltext.specs.declared.call.Mode.TheVariants.{Standard}
use Rattle.calltext.specs.declared.call.Policy.{Policy}
use Rattle.calltext.specs.declared.call.Policy.TheVariants.{Any, Never, Always}
use Rattle.callorder.specs.declared.calls.Call.{Call}
use Rattle.callorder.specs.declared.calls.Kind.{Kind}
use Rattle.callorder.specs.declared.calls.Kind.TheVariants.{Send}
use Rattle.callorder.specs.declared.calls.Pattern.{Pattern}
use Rattle.callorder.specs.Calls.{message_of, pattern_of, fits}

-- the call sends a message
abbrev pub is_message : Call → Bool
is_message call = is_some (message_of call.kind)

-- how many messages the calls send
abbrev pub messages : List Call → ℕ
messages calls = length (filter is_message calls)

abbrev pub has_star : Option Pattern → Bool
has_star None = false
has_star (Some pattern) = is_none pattern.source || is_none pattern.tag

-- how many of the calls have a star as their source or their tag
abbrev pub wildcards : List Call → ℕ
wildcards calls = length (filter (λ call. has_star (pattern_of call.kind)) calls)

-- how many of the calls are sends that fit this one
abbrev pub senders : List Call → Call → ℕ
senders calls finder = length (filter (λ send. fits send finder) calls)

-- a receive, a matched probe or a probe with a star as its source or its tag, which more than one
-- send fits
abbrev pub has_choice : List Call → Call → Bool
has_choice calls finder = has_star (pattern_of finder.kind) && nat_lt 1 (senders calls finder)

-- how many of the calls are such wildcards
abbrev pub wildcards_with_choice : List Call → ℕ
wildcards_with_choice calls = length (filter (has_choice calls) calls)

abbrev pub is_standard_send : Kind ℕ → Bool
is_standard_send (Send Standard blocking message) = true
is_standard_send _ = false

-- how many of the calls are standard sends
abbrev pub count_standard_sends : List Call → ℕ
count_standard_sends calls = length (filter (λ call. is_standard_send call.kind) calls)

-- how many sends the policy leaves open, so that they may be buffered or not
abbrev pub open_sends : Policy → List Call → ℕ
open_sends Any calls = count_standard_sends calls
open_sends Never calls = 0
open_sends Always calls = 0
