-- Where each rank stands in a configuration, and what it waits for. Calls are named by their place,
-- from 0, in the program's list.
use Rattle.std.specs.Prelude.{◌≡◌, ℕ, suc, Bool, true, false, not, ◌&&◌, ◌||◌, IsTrue, Option, Some, None, is_some, slice_index, unwrap_or, option_map, option_and_then}
use Rattle.callorder.specs.declared.calls.Call.{Call}
use Rattle.callorder.specs.Calls.{operation_of, receive_of}
use Rattle.callorder.specs.Programs.{MpiProgram, call_at, is_of_rank, are_fit, takes}
use Rattle.semantics.specs.Machine.{Configuration, is_issued, partner_of, is_done, is_returned, is_rank_finished}
use Rattle.waits.specs.declared.fates.Fate.{Fate}
use Rattle.waits.specs.declared.fates.Fate.TheVariants.{Taken, NotIssued, Open}
use Rattle.waits.specs.declared.needs.Need.{Need}
use Rattle.waits.specs.declared.needs.Need.TheVariants.{Match, Fetch}
use Rattle.waits.specs.declared.standings.Standing.{Standing}
use Rattle.waits.specs.declared.standings.Standing.TheVariants.{Finished, Waits, Ready}

-- ---- where a rank stands

-- the call before the rank's next one is of that rank and has not returned
pub record WaitsIn (p : MpiProgram) (m : Configuration) (rank call : ℕ) : Type 0 where
  pub before : slice_index m.next rank ≡ suc call
  pub own : IsTrue (is_of_rank (call_at p call) rank)
  pub pending : is_returned p m call ≡ false

-- the rank is not finished, and waits in no call
pub record IsReady (p : MpiProgram) (m : Configuration) (rank : ℕ) : Type 0 where
  pub unfinished : is_rank_finished p m rank ≡ false
  pub free : (call : ℕ) → WaitsIn p m rank call → ⊥

-- the rank stands so
abbrev pub Stands : MpiProgram → Configuration → ℕ → Standing → Type 0
Stands p m rank Finished = IsTrue (is_rank_finished p m rank)
Stands p m rank (Waits call) = WaitsIn p m rank call
Stands p m rank Ready = IsReady p m rank

-- ---- what a call waits for

abbrev pub operation_at : ℕ → Option Call → ℕ
operation_at c None = c
operation_at c (Some call) = unwrap_or (operation_of call.kind) c

-- the operation whose end a call waits for: that of a wait, else the call itself
abbrev pub operation_of_call : MpiProgram → ℕ → ℕ
operation_of_call p c = operation_at c (call_at p c)

-- the receive on the handle of a call, where that is a matched probe
abbrev pub handled_receive : MpiProgram → ℕ → Option ℕ
handled_receive p c = option_and_then (λ call. receive_of call.kind) (call_at p c)

abbrev pub need_with : MpiProgram → Option ℕ → Option Need
need_with p None = Some Match
need_with p (Some probe) = option_map Fetch (handled_receive p probe)

abbrev pub need_where : Bool → Option Need → Option Need
need_where false need = None
need_where true need = need

-- What an operation waits for: nothing where it is done; a match, or of a probe a message to see,
-- where it has no partner; else it is a send that a matched probe found, and waits for the receive
-- on the probe's handle.
abbrev pub need_of_operation : MpiProgram → Configuration → ℕ → Option Need
need_of_operation p m o = need_where (is_some (call_at p o) && not (is_done p m o)) (need_with p (partner_of m o))

-- ---- which calls could bring the match, and what became of them

-- The second call is one that the first one looks for: a taker that it fits, where the first is a
-- send, or a send that fits it. So a send looks for no probe, which takes nothing out, but a probe
-- for sends.
abbrev pub fits_with : MpiProgram → ℕ → ℕ → Bool
fits_with p c e = takes p c e || are_fit p e c

abbrev pub fate_from : Option ℕ → Bool → Fate
fate_from (Some other) issued = Taken other
fate_from None false = NotIssued
fate_from None true = Open

-- What became of a call: it is matched with this one (or is a probe that saw this one), or is not
-- issued, or is issued and has found nothing.
abbrev pub fate_in : MpiProgram → Configuration → ℕ → Fate
fate_in p m e = fate_from (partner_of m e) (is_issued p m e)

-- ---- who waits for whom

-- a call of the rank fits with the operation, and is not issued
pub record IsMissing (p : MpiProgram) (m : Configuration) (o rank : ℕ) : Type 0 where
  pub call : ℕ
  pub own : IsTrue (is_of_rank (call_at p call) rank)
  pub fit : IsTrue (fits_with p o call)
  pub not_issued : is_issued p m call ≡ false

-- each call that fits with the call is of that rank
abbrev pub IsOnlyPeer : MpiProgram → ℕ → ℕ → Type 0
IsOnlyPeer p c peer = (e rank : ℕ) → IsTrue (fits_with p c e) → IsTrue (is_of_rank (call_at p e) rank) → rank ≡ peer

-- each call that fits with the call is a send that fits it
abbrev pub LooksForSends : MpiProgram → ℕ → Type 0
LooksForSends p c = (e : ℕ) → IsTrue (fits_with p c e) → IsTrue (are_fit p e c)

-- what the operation needs can come from that rank
abbrev pub CanCome : MpiProgram → Configuration → ℕ → ℕ → Need → Type 0
CanCome p m o rank Match = IsMissing p m o rank
CanCome p m o rank (Fetch receive) = IsTrue (is_of_rank (call_at p receive) rank)

-- the operation needs something that can come from that rank
pub record IsNeededBy (p : MpiProgram) (m : Configuration) (o rank : ℕ) : Type 0 where
  pub need : Need
  pub needs : need_of_operation p m o ≡ Some need
  pub from : CanCome p m o rank need

-- the rank waits in a call whose operation needs something that can come from the other rank
pub record WaitsFor (p : MpiProgram) (m : Configuration) (rank other : ℕ) : Type 0 where
  pub call : ℕ
  pub waits : WaitsIn p m rank call
  pub needed : IsNeededBy p m (operation_of_call p call) other
