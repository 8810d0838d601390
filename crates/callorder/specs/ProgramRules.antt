-- What each program keeps.
use Rattle.std.specs.Prelude.{◌≡◌, ℕ, ◌<◌, ◌≤◌, Bool, IsTrue, IfSome, List, length, Option, Some, slice_get}
use Rattle.calltext.specs.Grammar.{short}
use Rattle.calltext.specs.declared.limits.Limits.{Limits}
use Rattle.callorder.specs.declared.calls.Call.{Call}
use Rattle.callorder.specs.declared.calls.Kind.{Kind}
use Rattle.callorder.specs.Calls.{message_of, pattern_of, operation_of, is_start, receive_of, is_matched_receive}
use Rattle.callorder.specs.Programs.{MpiProgram}

-- the call's rank, and the rank that it names as its peer, exist
pub record HasRanksBelow (ranks : ℕ) (call : Call) : Type 0 where
  pub own : call.rank < ranks
  pub destination : IfSome (message_of call.kind) (λ message. message.destination < ranks)
  pub source : IfSome (pattern_of call.kind) (λ pattern. IfSome pattern.source (λ rank. rank < ranks))

-- Each call that names another one names a call of its own rank and of the right kind; no two name
-- the same one; and each call of that kind is named.
pub record IsPairing (calls : List Call) (named_by : Kind ℕ → Option ℕ) (is_named : Kind ℕ → Bool) : Type 0 where
  pub named : (c o : ℕ) (call : Call) → slice_get calls c ≡ Some call → named_by call.kind ≡ Some o → (other : Call) × (slice_get calls o ≡ Some other) × (other.rank ≡ call.rank) × IsTrue (is_named other.kind)
  pub once : (c d o : ℕ) (call other : Call) → slice_get calls c ≡ Some call → slice_get calls d ≡ Some other → named_by call.kind ≡ Some o → named_by other.kind ≡ Some o → c ≡ d
  pub each : (o : ℕ) (other : Call) → slice_get calls o ≡ Some other → IsTrue (is_named other.kind) → (c : ℕ) × (call : Call) × (slice_get calls c ≡ Some call) × (named_by call.kind ≡ Some o)

-- What each program keeps: one rank or more and no more ranks and calls than the limits allow, in
-- rank order; ranks and peers exist; each wait comes after its start, and each start is waited for
-- exactly once; each matched probe comes before the receive on its handle, and each such receive
-- belongs to exactly one matched probe.
pub record IsProgramWithin (l : Limits) (p : MpiProgram) : Type 0 where
  pub some_rank : 1 ≤ p.ranks
  pub few_ranks : p.ranks ≤ l.ranks
  pub few_calls : length p.calls ≤ l.calls
  pub rank_order : (c d : ℕ) (call other : Call) → c ≤ d → slice_get p.calls c ≡ Some call → slice_get p.calls d ≡ Some other → call.rank ≤ other.rank
  pub in_range : (c : ℕ) (call : Call) → slice_get p.calls c ≡ Some call → HasRanksBelow p.ranks call
  pub waits : IsPairing p.calls operation_of is_start
  pub waits_later : (c o : ℕ) (call : Call) → slice_get p.calls c ≡ Some call → operation_of call.kind ≡ Some o → o < c
  pub probes : IsPairing p.calls receive_of is_matched_receive
  pub receives_later : (c o : ℕ) (call : Call) → slice_get p.calls c ≡ Some call → receive_of call.kind ≡ Some o → c < o

-- What a program within the short limits keeps: it has 1 to 64 ranks and at most 1,024 calls.
abbrev pub IsProgram : MpiProgram → Type 0
IsProgram = IsProgramWithin short
