-- Laws of near misses.
use Rattle.std.specs.Prelude.{◌≡◌, ◌≢◌, ◌↔◌, ℕ, false, IsTrue, Some, None}
use Rattle.callorder.specs.declared.calls.Call.{Call}
use Rattle.callorder.specs.declared.calls.Message.{Message}
use Rattle.callorder.specs.declared.calls.Pattern.{Pattern}
use Rattle.callorder.specs.Calls.{fits}
use Rattle.waits.specs.declared.parts.Mismatch.{Mismatch}
use Rattle.waits.specs.Misses.{holds_in, missed_between, missed_by}

-- the part fails, and each other part holds
pub record MissesOnly (part : Mismatch) (sender : ℕ) (message : Message) (finder : ℕ) (pattern : Pattern) : Type 0 where
  pub fails : holds_in part sender message finder pattern ≡ false
  pub others : (other : Mismatch) → other ≢ part → IsTrue (holds_in other sender message finder pattern)

-- The part that is told is the only one that fails, and where there is such a part it is told.
abbrev pub MissedPartsAreTheOnlyOnes : Type 0
MissedPartsAreTheOnlyOnes =
    (part : Mismatch) (sender : ℕ) (message : Message) (finder : ℕ) (pattern : Pattern)
    → (missed_between sender (Some message) finder (Some pattern) ≡ Some part) ↔ MissesOnly part sender message finder pattern

-- A send that fits misses no part.
abbrev pub FitCallsMissNoPart : Type 0
FitCallsMissNoPart = (send finder : Call) → IsTrue (fits send finder) → missed_by send finder ≡ None
