use Rattle.std.proofs.Common.{◌≡◌, ◌<◌, ℕ, Some, slice_get}
use Rattle.leastrun.specs.declared.slot.PatternForm.{PatternForm}
use Rattle.leastrun.specs.parts.Slots.{send_slot}
use Rattle.leastrun.specs.parts.Queues.{IsGrown, StandsIn}
use Rattle.leastrun.proofs.tables.add_send.Given as goal

abbrev pub invariant-loop-place : goal.invariant-loop-place
invariant-loop-place l =
    record {
      grown : IsGrown l.fn.sends l.sends l.call;
      there : (i q : ℕ) (form : PatternForm) → i < l.place → slice_get l.forms i ≡ Some form → send_slot form l.known ≡ Some q → StandsIn l.sends q l.call;
    }
