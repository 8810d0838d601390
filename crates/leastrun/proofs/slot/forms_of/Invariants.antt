use Rattle.std.proofs.Common.{◌≡◌, ◌<◌, ℕ, Some}
use Rattle.callorder.specs.declared.calls.Call.{Call}
use Rattle.callorder.specs.declared.calls.Pattern.{Pattern}
use Rattle.callorder.specs.Calls.{pattern_of}
use Rattle.callorder.specs.Programs.{call_at}
use Rattle.leastrun.specs.parts.Slots.{Lists, form_of}
use Rattle.leastrun.proofs.slot.forms_of.Given as goal

abbrev pub invariant-loop-place : goal.invariant-loop-place
invariant-loop-place l = (c : ℕ) (call : Call) (x : Pattern) → c < l.place → call_at l.program c ≡ Some call → pattern_of call.kind ≡ Some x → Lists l.forms.items (form_of x)
