-- What comes after a finder in each run, by a chain of messages.
use Rattle.std.specs.Prelude.{◌≡◌, ℕ, ◌<◌, ◌⊎◌, Bool, true, false, IsTrue, ◌&&◌, ◌==◌, not, List, [], ◌∷◌, take, Option, Some, None}
use Rattle.std.specs.List.{count_by}
use Rattle.callorder.specs.declared.calls.Call.{Call}
use Rattle.callorder.specs.declared.calls.Kind.{Kind}
use Rattle.callorder.specs.declared.calls.Kind.TheVariants.{Send, Receive, MatchedProbe, Probe, MatchedReceive, Wait}
use Rattle.callorder.specs.declared.calls.Message.{Message}
use Rattle.callorder.specs.declared.calls.Pattern.{Pattern}
use Rattle.callorder.specs.Calls.{message_of, pattern_of, is_probe_kind}
use Rattle.callorder.specs.Programs.{MpiProgram, call_at, are_of_one_rank, are_fit}
use Rattle.phases.specs.CallPlaces.{IsFrom}
use Rattle.phases.specs.Cuts.{Cut}
use Rattle.phases.specs.Conditions.{IsOfOnlySender}

-- a receive, a matched probe or a probe
abbrev pub IsFinder : Kind ℕ → Type 0
IsFinder (Send mode blocking message) = ⊥
IsFinder (Receive blocking pattern) = Unit {0}
IsFinder (MatchedProbe pattern receive) = Unit {0}
IsFinder (Probe pattern) = Unit {0}
IsFinder (MatchedReceive blocking) = ⊥
IsFinder (Wait operation) = ⊥

-- the call at a place, of this kind, returns only after that finder has found a message
abbrev pub Needs : MpiProgram → ℕ → Kind ℕ → ℕ → Type 0
Needs p c (Send mode blocking message) o = ⊥
Needs p c (Receive blocking pattern) o = (blocking ≡ true) × (o ≡ c)
Needs p c (MatchedProbe pattern receive) o = o ≡ c
Needs p c (Probe pattern) o = o ≡ c
Needs p c (MatchedReceive blocking) o = ⊥
Needs p c (Wait operation) o = (o ≡ operation) × (other : Call) × (call_at p o ≡ Some other) × IsFinder other.kind

-- an earlier call of the call's rank returns only after that finder has found a message
pub record StandsBehind (p : MpiProgram) (c f : ℕ) : Type 0 where
  pub place : ℕ
  pub call : Call
  pub there : call_at p place ≡ Some call
  pub earlier : place < c
  pub of_one_rank : IsTrue (are_of_one_rank p place c)
  pub needs : Needs p place call.kind f

-- what a message is known by (MPI 4.1, section 3.2.3)
pub record Envelope : Type 0 where
  pub source : ℕ
  pub destination : ℕ
  pub tag : ℕ
  pub communicator : ℕ

abbrev pub is_addressed : Envelope → Option Message → Bool
is_addressed h None = false
is_addressed h (Some message) = (message.destination == h.destination && message.tag == h.tag) && message.communicator == h.communicator

-- the call sends a message with the envelope
abbrev pub sends_with : Envelope → Call → Bool
sends_with h call = call.rank == h.source && is_addressed h (message_of call.kind)

abbrev pub is_number : Option ℕ → ℕ → Bool
is_number None n = false
is_number (Some number) n = number == n

abbrev pub is_named : Envelope → Option Pattern → Bool
is_named h None = false
is_named h (Some pattern) = (is_number pattern.source h.source && is_number pattern.tag h.tag) && pattern.communicator == h.communicator

-- the call is a taker that names the envelope, without a wildcard
abbrev pub takes_with : Envelope → Call → Bool
takes_with h call = (call.rank == h.destination && is_named h (pattern_of call.kind)) && not (is_probe_kind call.kind)

-- each taker that a message with the envelope fits names the envelope
abbrev pub IsExact : MpiProgram → Envelope → Type 0
IsExact p h =
    (s t : ℕ) (a b : Call) → call_at p s ≡ Some a → call_at p t ≡ Some b → IsTrue (are_fit p s t) → is_probe_kind b.kind ≡ false → IsTrue (sends_with h a) → IsTrue (takes_with h b)

-- The send and the taker are of one envelope, which each taker names that its messages fit, and as
-- many takers of it stand before the taker as sends before the send.
pub record AreCounterparts (p : MpiProgram) (s t : ℕ) : Type 0 where
  pub envelope : Envelope
  pub exact : IsExact p envelope
  pub send : Call
  pub taker : Call
  pub at_send : call_at p s ≡ Some send
  pub at_taker : call_at p t ≡ Some taker
  pub sends : IsTrue (sends_with envelope send)
  pub takes : IsTrue (takes_with envelope taker)
  pub same : count_by (sends_with envelope) (take s p.calls) ≡ count_by (takes_with envelope) (take t p.calls)

-- By these messages, the last first, each a send and a taker, the call is issued only after the
-- finder has found a message: it stands behind the taker of the last message, whose send stands
-- behind the taker of the one before, and so on.
abbrev pub IsAfter : MpiProgram → ℕ → ℕ → List (ℕ × ℕ) → Type 0
IsAfter p c f [] = StandsBehind p c f
IsAfter p c f (message ∷ messages) = StandsBehind p c message.1 × AreCounterparts p message.0 message.1 × IsAfter p message.0 f messages

-- Each send of the second part that fits a finder of the first is of the rank of all sends there
-- that fit that finder, or comes after it by some messages.
abbrev pub IsOrderedCut : MpiProgram → Cut → Type 0
IsOrderedCut p x =
    (s f : ℕ) → IsFrom x.second x.moved_second s → IsFrom x.first x.moved_first f → IsTrue (are_fit p s f)
    → IsOfOnlySender p x.first x.moved_first s f ⊎ ((messages : List (ℕ × ℕ)) × IsAfter p s f messages)
