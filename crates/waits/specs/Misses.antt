-- Near misses: which one part of the matching rule keeps a send from fitting. Calls are named by
-- their place, from 0, in the program's list.
use Rattle.std.specs.Prelude.{ℕ, Bool, true, false, not, ◌==◌, ◌&&◌, if◌then◌else◌, List, [], length, Option, Some, None, is_some}
use Rattle.std.specs.List.{filter, list_any, range_with_len}
use Rattle.callorder.specs.declared.calls.Call.{Call}
use Rattle.callorder.specs.declared.calls.Message.{Message}
use Rattle.callorder.specs.declared.calls.Pattern.{Pattern}
use Rattle.callorder.specs.Calls.{message_of, pattern_of, is_probe_kind, covers}
use Rattle.callorder.specs.Programs.{MpiProgram, call_at}
use Rattle.semantics.specs.Machine.{Configuration, is_matched}
use Rattle.waits.specs.Waiting.{fits_with}
use Rattle.waits.specs.declared.parts.Mismatch.{Mismatch}
use Rattle.waits.specs.declared.parts.Mismatch.TheVariants.{Destination, Communicator, Source, Tag}

-- the part of the rule holds of a message that rank `sender` sends and a pattern that rank `finder`
-- looks for
abbrev pub holds_in : Mismatch → ℕ → Message → ℕ → Pattern → Bool
holds_in Destination sender message finder pattern = message.destination == finder
holds_in Communicator sender message finder pattern = message.communicator == pattern.communicator
holds_in Source sender message finder pattern = covers pattern.source sender
holds_in Tag sender message finder pattern = covers pattern.tag message.tag

-- the part whose test fails, if exactly one does
abbrev pub only_false : Bool → Bool → Bool → Bool → Option Mismatch
only_false false true true true = Some Destination
only_false true false true true = Some Communicator
only_false true true false true = Some Source
only_false true true true false = Some Tag
only_false true true true true = None
only_false true true false false = None
only_false true false true false = None
only_false true false false tag = None
only_false false true true false = None
only_false false true false tag = None
only_false false false source tag = None

abbrev pub missed_between : ℕ → Option Message → ℕ → Option Pattern → Option Mismatch
missed_between sender None finder pattern = None
missed_between sender (Some message) finder None = None
missed_between sender (Some message) finder (Some pattern) =
    only_false (holds_in Destination sender message finder pattern) (holds_in Communicator sender message finder pattern)
    (holds_in Source sender message finder pattern) (holds_in Tag sender message finder pattern)

-- the one part in which the first call, a send, misses the second
abbrev pub missed_by : Call → Call → Option Mismatch
missed_by send finder = missed_between send.rank (message_of send.kind) finder.rank (pattern_of finder.kind)

abbrev pub missed_calls : Option Call → Option Call → Option Mismatch
missed_calls None other = None
missed_calls (Some call) None = None
missed_calls (Some call) (Some other) =
    if is_some (message_of other.kind) then missed_by other call
    else if is_probe_kind other.kind then None
    else missed_by call other

-- The one part in which two calls miss each other: the second is a send, or else no probe, since a
-- send looks for no probe.
abbrev pub misses_in : MpiProgram → ℕ → ℕ → Option Mismatch
misses_in p c e = missed_calls (call_at p c) (call_at p e)

-- the first call looks for the second, which has no partner
abbrev pub is_unmatched_fit : MpiProgram → Configuration → ℕ → ℕ → Bool
is_unmatched_fit p m c e = fits_with p c e && not (is_matched m e)

-- the two calls miss each other in exactly one part, and the second has no partner
abbrev pub is_near_miss : MpiProgram → Configuration → ℕ → ℕ → Bool
is_near_miss p m c e = is_some (misses_in p c e) && not (is_matched m e)

abbrev pub has_unmatched_fit : MpiProgram → Configuration → ℕ → Bool
has_unmatched_fit p m c = list_any (is_unmatched_fit p m c) (range_with_len 0 (length p.calls))

-- the calls without a partner that miss a call in exactly one part, in rising order
abbrev pub unmatched_misses : MpiProgram → Configuration → ℕ → List ℕ
unmatched_misses p m c = filter (is_near_miss p m c) (range_with_len 0 (length p.calls))

-- The near misses of a call: none where a call without a partner fits.
abbrev pub near_misses : MpiProgram → Configuration → ℕ → List ℕ
near_misses p m c = if has_unmatched_fit p m c then [] else unmatched_misses p m c
