-- The history with the reasons to leave, and what is kept free in both.
use Rattle.std.specs.Prelude.{◌≡◌, ℕ, ◌+◌, ◌<◌, List, length}
use Rattle.pool.specs.declared.entry.Entry.{Entry}
use Rattle.pool.specs.declared.why.Why.{Why}

-- there is room for so many calls and so many reasons, and so many places of both are kept for
-- leaves
pub record LedgerState : Type 0 where
  pub history : List Entry
  pub reasons : List Why
  pub places : ℕ
  pub calls_fit : ℕ
  pub reasons_fit : ℕ

-- one more call fits beside the places that are kept
abbrev pub FitsCall : LedgerState → Type 0
FitsCall l = length l.history + l.places < l.calls_fit

-- and one more reason
abbrev pub FitsReason : LedgerState → Type 0
FitsReason l = length l.reasons + l.places < l.reasons_fit

-- the calls, the reasons and the places that are kept are the same
pub record IsSameLedger (old new : LedgerState) : Type 0 where
  pub history : new.history ≡ old.history
  pub reasons : new.reasons ≡ old.reasons
  pub places : new.places ≡ old.places
