-- What keeps a phase to itself where finders take messages of any source: the ranks that send to
-- them later finish the phase only after they have found. Which ranks may finish it earlier is told
-- by partners that calls have in each run that finds them any.
use Rattle.std.specs.Prelude.{◌≡◌, ℕ, ◌⊎◌, IsTrue, List, Some, ◌+◌, false, ◌||◌, ◌↔◌, ◌<◌, None, slice_get}
use Rattle.callorder.specs.declared.calls.Call.{Call}
use Rattle.callorder.specs.Calls.{pattern_of, both_hold, fits, message_of}
use Rattle.callorder.specs.Programs.{MpiProgram, call_at, is_of_rank}
use Rattle.semantics.specs.declared.state.Step.{Step}
use Rattle.semantics.specs.Machine.{opening, after_all, IsRun, is_matched, is_rank_finished, Configuration, partner_of}
use Rattle.races.specs.Races.{names_source}
use Rattle.races.specs.Tells.{Table, tells_return_call, IsJustified}
use Rattle.phases.specs.Order.{AreCounterparts}
use Rattle.callorder.specs.declared.calls.Message.{Message}
use Rattle.callorder.specs.declared.calls.Pattern.{Pattern}
use Rattle.sealing.specs.declared.loose.Loose.{Loose}

-- In each run of the program, the finder has found a message where the rank is finished.
abbrev pub IsFoundBeforeFinish : MpiProgram → ℕ → ℕ → Type 0
IsFoundBeforeFinish p f rank =
    (steps : List Step) → IsRun p (opening p) steps → IsTrue (is_rank_finished p (after_all (opening p) steps) rank)
    → IsTrue (is_matched (after_all (opening p) steps) f)

-- Each send of what follows that fits a finder of the phase comes too late for it: the finder names
-- its source, so that earlier sends of that rank come first; or the send's rank finishes the phase
-- only after the finder has found a message.
abbrev pub IsSealed : MpiProgram → MpiProgram → Type 0
IsSealed p following =
    (f s : ℕ) (finder send : Call) → call_at p f ≡ Some finder → call_at following s ≡ Some send → IsTrue (both_hold fits (Some send) (Some finder))
    → IsTrue (names_source (pattern_of finder.kind)) ⊎ IsFoundBeforeFinish p f send.rank

-- Each partner in this configuration is a call's counterpart: the two are a send and a taker of one
-- envelope, which all takers name that its messages fit, and as many takers of it stand before the
-- one as sends before the other.
abbrev pub HasSurePartners : MpiProgram → Configuration → Type 0
HasSurePartners p e = (c x : ℕ) → partner_of e c ≡ Some x → AreCounterparts p x c ⊎ AreCounterparts p c x

-- Where the rank is finished, the finder has found a message, as its last call tells: this is known
-- where that call is issued, or where it returns.
pub record TellsFinish (p : MpiProgram) (e : Configuration) (knows : Table) (rank f : ℕ) : Type 0 where
  pub last : ℕ
  pub call : Call
  pub there : call_at p last ≡ Some call
  pub own : call.rank ≡ rank
  pub none : is_of_rank (call_at p (last + 1)) rank ≡ false
  pub tells : IsTrue (knows last f || tells_return_call p e knows last (call_at p last) f)

-- a finder of any source at this place, and its pattern
pub record IsOfAnySource (p : MpiProgram) (f : ℕ) (finder : Call) (pattern : Pattern) : Type 0 where
  pub there : call_at p f ≡ Some finder
  pub finds : pattern_of finder.kind ≡ Some pattern
  pub any : pattern.source ≡ None

-- what a rank could send to the finder
abbrev pub loose_of : ℕ → Call → Pattern → Loose
loose_of rank finder pattern = record { source = rank; destination = finder.rank; communicator = pattern.communicator; tag = pattern.tag }

-- No table that partners justify which are sure tells that the finder has found where the rank is
-- finished.
abbrev pub IsUntold : MpiProgram → ℕ → ℕ → Type 0
IsUntold p rank f = (e : Configuration) (knows : Table) → HasSurePartners p e → IsJustified p e knows → TellsFinish p e knows rank f → ⊥

-- The entry stands for a rank and a finder of any source of which nothing tells that it has found
-- where the rank is finished.
pub record IsLoose (p : MpiProgram) (entry : Loose) : Type 0 where
  pub f : ℕ
  pub rank : ℕ
  pub finder : Call
  pub pattern : Pattern
  pub is_finder : IsOfAnySource p f finder pattern
  pub in_range : rank < p.ranks
  pub is : entry ≡ loose_of rank finder pattern
  pub untold : IsUntold p rank f

-- the list has each entry that is loose, and no other one
abbrev pub AreLoose : MpiProgram → List Loose → Type 0
AreLoose p list = (entry : Loose) → ((place : ℕ) × (slice_get list place ≡ Some entry)) ↔ IsLoose p entry

-- a send of the program that the entry stands for
pub record IsLooseSend (entry : Loose) (p : MpiProgram) : Type 0 where
  pub place : ℕ
  pub call : Call
  pub message : Message
  pub there : call_at p place ≡ Some call
  pub sends : message_of call.kind ≡ Some message
  pub source : call.rank ≡ entry.source
  pub destination : message.destination ≡ entry.destination
  pub communicator : message.communicator ≡ entry.communicator
  pub tag : (entry.tag ≡ None) ⊎ (entry.tag ≡ Some message.tag)
