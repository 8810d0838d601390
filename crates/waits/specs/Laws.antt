-- Laws of stuck configurations: each rank that is not finished waits, and what it needs is gone or
-- has not begun.
use Rattle.std.specs.Prelude.{◌≡◌, ◌≢◌, ℕ, ◌<◌, false, IsTrue, List, Some, None}
use Rattle.calltext.specs.declared.limits.Limits.{Limits}
use Rattle.callorder.specs.ProgramRules.{IsProgramWithin}
use Rattle.callorder.specs.Programs.{MpiProgram, are_fit}
use Rattle.semantics.specs.Configurations.{IsConfigurationOf, is_open_call}
use Rattle.semantics.specs.Machine.{Configuration, IsRun, IsStuck, opening, after_all, is_issued, is_rank_finished, partner_of}
use Rattle.semantics.specs.declared.state.Step.{Step}
use Rattle.waits.specs.declared.fates.Fate.TheVariants.{Open}
use Rattle.waits.specs.declared.needs.Need.{Need}
use Rattle.waits.specs.declared.needs.Need.TheVariants.{Match, Fetch}
use Rattle.waits.specs.Waiting.{WaitsIn, IsReady, operation_of_call, need_of_operation, fits_with, fate_in}

-- the rank waits in a call, and in no other
pub record WaitsInOneCall (p : MpiProgram) (m : Configuration) (rank : ℕ) : Type 0 where
  pub call : ℕ
  pub waits : WaitsIn p m rank call
  pub only : (other : ℕ) → WaitsIn p m rank other → other ≡ call

-- In a stuck configuration each rank that is not finished waits in exactly one call.
abbrev pub StuckRanksWaitInOneCall : Type 0
StuckRanksWaitInOneCall =
    (p : MpiProgram) (m : Configuration) (rank : ℕ) → IsConfigurationOf p m → IsStuck p m → rank < p.ranks → is_rank_finished p m rank ≡ false
    → WaitsInOneCall p m rank

-- In a stuck configuration no rank could go on.
abbrev pub NoRankIsReadyWhereStuck : Type 0
NoRankIsReadyWhereStuck =
    (p : MpiProgram) (m : Configuration) (rank : ℕ) → IsConfigurationOf p m → IsStuck p m → rank < p.ranks → IsReady p m rank → ⊥

-- In a stuck configuration no send and no receive, matched probe or probe that it fits are both
-- issued, the send unmatched and the other without a message.
abbrev pub FitCallsAreNotBothOpen : Type 0
FitCallsAreNotBothOpen =
    (p : MpiProgram) (m : Configuration) (send finder : ℕ) → IsStuck p m → IsTrue (are_fit p send finder) → IsTrue (is_open_call p m send)
    → IsTrue (is_open_call p m finder) → ⊥

-- Where a rank of a stuck configuration waits for an operation that has no partner, each call that
-- fits with it is taken or not issued.
abbrev pub NeededCallsAreNotOpen : Type 0
NeededCallsAreNotOpen =
    (l : Limits) (p : MpiProgram) (m : Configuration) (rank call needed : ℕ) → IsProgramWithin l p → IsStuck p m → WaitsIn p m rank call
    → partner_of m (operation_of_call p call) ≡ None → IsTrue (fits_with p (operation_of_call p call) needed) → fate_in p m needed ≢ Open

-- what an operation needs, which has not come: a match or a message to see, or the receive on a
-- matched probe's handle, which is not issued
abbrev pub IsOutstanding : MpiProgram → Configuration → Need → Type 0
IsOutstanding p m Match = Unit {0}
IsOutstanding p m (Fetch receive) = is_issued p m receive ≡ false

pub record HasNeed (p : MpiProgram) (m : Configuration) (o : ℕ) : Type 0 where
  pub need : Need
  pub needs : need_of_operation p m o ≡ Some need
  pub outstanding : IsOutstanding p m need

-- After each run the operation that a rank waits for needs something that has not come.
abbrev pub WaitingRanksNeed : Type 0
WaitingRanksNeed =
    (l : Limits) (p : MpiProgram) (steps : List Step) (rank call : ℕ) → IsProgramWithin l p → IsRun p (opening p) steps → WaitsIn p (after_all (opening p) steps) rank call
    → HasNeed p (after_all (opening p) steps) (operation_of_call p call)
