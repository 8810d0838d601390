-- What makes a cut clean: the first part leaves no message, and no send of the second comes early.
use Rattle.std.specs.Prelude.{◌≡◌, ℕ, ◌⊎◌, Bool, false, IsTrue, ◌&&◌, ◌==◌, not, List, Option, Some, None}
use Rattle.std.specs.List.{count_by}
use Rattle.callorder.specs.declared.calls.Call.{Call}
use Rattle.callorder.specs.declared.calls.Message.{Message}
use Rattle.callorder.specs.declared.calls.Pattern.{Pattern}
use Rattle.callorder.specs.Calls.{message_of, pattern_of, is_probe_kind}
use Rattle.callorder.specs.Programs.{MpiProgram, call_at, are_fit}
use Rattle.semantics.specs.declared.state.Step.{Step}
use Rattle.semantics.specs.Machine.{opening, after_all, IsRun, is_issued, is_matched}
use Rattle.phases.specs.CallPlaces.{IsFrom}
use Rattle.phases.specs.Cuts.{Cut}

-- ---- what is left

abbrev pub goes_to : ℕ → ℕ → Option Message → Bool
goes_to rank communicator None = false
goes_to rank communicator (Some message) = message.destination == rank && message.communicator == communicator

-- the call sends to the rank on the communicator
abbrev pub is_send_to : ℕ → ℕ → Call → Bool
is_send_to rank communicator call = goes_to rank communicator (message_of call.kind)

abbrev pub finds_on : ℕ → Option Pattern → Bool
finds_on communicator None = false
finds_on communicator (Some pattern) = pattern.communicator == communicator

-- the call is a taker of the rank on the communicator
abbrev pub is_taker_at : ℕ → ℕ → Call → Bool
is_taker_at rank communicator call = (call.rank == rank && finds_on communicator (pattern_of call.kind)) && not (is_probe_kind call.kind)

-- as many messages are sent to the rank on the communicator as it takes there
abbrev pub IsEven : MpiProgram → ℕ → ℕ → Type 0
IsEven p rank communicator = count_by (is_send_to rank communicator) p.calls ≡ count_by (is_taker_at rank communicator) p.calls

-- a finder of the rank on the communicator
pub record HasFinder (p : MpiProgram) (rank communicator : ℕ) : Type 0 where
  pub place : ℕ
  pub call : Call
  pub pattern : Pattern
  pub there : call_at p place ≡ Some call
  pub own : call.rank ≡ rank
  pub finds : pattern_of call.kind ≡ Some pattern
  pub on : pattern.communicator ≡ communicator

-- On each communicator on which a rank has a finder in what follows, it takes as many messages as
-- are sent to it there.
abbrev pub IsBalanced : MpiProgram → MpiProgram → Type 0
IsBalanced p following = (rank communicator : ℕ) → HasFinder following rank communicator → IsEven p rank communicator

-- each rank takes on each communicator as many messages as are sent to it there
abbrev pub LeavesNothing : MpiProgram → Type 0
LeavesNothing p = (rank communicator : ℕ) → IsEven p rank communicator

-- ---- what comes early

-- all sends of the part that fit the finder are of the rank of this send
abbrev pub IsOfOnlySender : MpiProgram → MpiProgram → (ℕ → ℕ) → ℕ → ℕ → Type 0
IsOfOnlySender p part moved s f = (e : ℕ) → IsFrom part moved e → IsTrue (are_fit p e f) → (call other : Call) → call_at p e ≡ Some call → call_at p s ≡ Some other → call.rank ≡ other.rank

-- in each run the send is issued only after the finder has found a message
abbrev pub ComesAfter : MpiProgram → ℕ → ℕ → Type 0
ComesAfter p s f = (steps : List Step) → IsRun p (opening p) steps → IsTrue (is_issued p (after_all (opening p) steps) s) → IsTrue (is_matched (after_all (opening p) steps) f)

-- No send of the second part comes in time for a finder of the first: it is of the rank of all
-- sends there that fit that finder, or is issued after the finder has found a message.
abbrev pub IsTimely : MpiProgram → Cut → Type 0
IsTimely p x =
    (s f : ℕ) → IsFrom x.second x.moved_second s → IsFrom x.first x.moved_first f → IsTrue (are_fit p s f)
    → IsOfOnlySender p x.first x.moved_first s f ⊎ ComesAfter p s f
