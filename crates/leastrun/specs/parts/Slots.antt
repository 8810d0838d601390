-- Slots: each finder has one, and each send one for each form that a pattern may have; a send and a
-- finder that fit have one slot in the finder's form.
use Rattle.std.specs.Prelude.{◌≡◌, ℕ, ◌+◌, ◌*◌, ◌%◌, ◌^◌, Bool, true, false, List, Option, Some, None, is_some, slice_get}
use Rattle.callorder.specs.declared.calls.Call.{Call}
use Rattle.callorder.specs.declared.calls.Message.{Message}
use Rattle.callorder.specs.declared.calls.Pattern.{Pattern}
use Rattle.callorder.specs.Calls.{message_of, pattern_of}
use Rattle.callorder.specs.Programs.{MpiProgram, call_at}
use Rattle.leastrun.specs.declared.slot.PatternForm.{PatternForm}

abbrev pub mix : ℕ → ℕ → ℕ
mix one other = ((one * 11400714819323198485) % 2 ^ 64 + other) % 2 ^ 64

-- a number for what is named, and another one for what isn't
abbrev pub told : Option ℕ → ℕ
told None = 0
told (Some number) = number + 1

-- the slot of what a rank is sent by this communicator, from this source and with this tag, or any
abbrev pub slot_of : ℕ → ℕ → Option ℕ → Option ℕ → ℕ
slot_of rank communicator source tag = mix (mix (mix rank communicator) (told source)) (told tag)

-- the number where it is named
abbrev pub named : Bool → ℕ → Option ℕ
named true number = Some number
named false number = None

abbrev pub slot_of_message : PatternForm → ℕ → Option Message → Option ℕ
slot_of_message form rank None = None
slot_of_message form rank (Some message) =
    Some (slot_of message.destination message.communicator (named form.source rank) (named form.tag message.tag))

-- the slot of a send in this form
abbrev pub send_slot : PatternForm → Call → Option ℕ
send_slot form call = slot_of_message form call.rank (message_of call.kind)

abbrev pub slot_of_pattern : ℕ → Option Pattern → Option ℕ
slot_of_pattern rank None = None
slot_of_pattern rank (Some pattern) = Some (slot_of rank pattern.communicator pattern.source pattern.tag)

-- the slot of a finder
abbrev pub finder_slot : Call → Option ℕ
finder_slot call = slot_of_pattern call.rank (pattern_of call.kind)

-- which of its source and its tag the pattern names
abbrev pub form_of : Pattern → PatternForm
form_of pattern = record { source = is_some pattern.source; tag = is_some pattern.tag }

abbrev pub Lists : List PatternForm → PatternForm → Type 0
Lists forms form = (i : ℕ) × (slice_get forms i ≡ Some form)

-- the new list has what the old one has, and the pattern's form
pub record ListsMore (old new : List PatternForm) (pattern : Option Pattern) : Type 0 where
  pub kept : (form : PatternForm) → Lists old form → Lists new form
  pub more : (x : Pattern) → pattern ≡ Some x → Lists new (form_of x)

-- the form of each receive, matched probe and probe is listed
abbrev pub HasForms : MpiProgram → List PatternForm → Type 0
HasForms p forms = (c : ℕ) (call : Call) (x : Pattern) → call_at p c ≡ Some call → pattern_of call.kind ≡ Some x → Lists forms (form_of x)
