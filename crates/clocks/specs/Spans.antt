-- Spans of calls that stand as one block: receives and matched probes that may stand for one
-- another, and what stands between them.
use Rattle.std.specs.Prelude.{◌≡◌, ℕ, suc, Bool, true, false, not, ◌||◌, ◌<◌, ◌≤◌, ◌⊎◌, IsTrue, Option, Some, None}
use Rattle.calltext.specs.declared.call.Mode.{Mode}
use Rattle.calltext.specs.declared.call.Mode.TheVariants.{Standard, Synchronous, Buffered}
use Rattle.callorder.specs.Calls.{pattern_of}
use Rattle.callorder.specs.declared.calls.Call.{Call}
use Rattle.callorder.specs.declared.calls.Kind.{Kind}
use Rattle.callorder.specs.declared.calls.Kind.TheVariants.{Send, Receive, MatchedProbe, Probe, MatchedReceive, Wait}
use Rattle.callorder.specs.declared.calls.Pattern.{Pattern}
use Rattle.callorder.specs.Programs.{MpiProgram, call_at, are_fit, are_of_one_rank}
use Rattle.semantics.specs.Machine.{Configuration, partner_of}
use Rattle.races.specs.Blocks.{Blocks, AreBlocks, IsPrompt, is_finder}

abbrev pub is_buffered_mode : Mode → Bool
is_buffered_mode Standard = false
is_buffered_mode Synchronous = false
is_buffered_mode Buffered = true

-- an operation of this kind is done as soon as it is issued: a send in buffered mode, or the
-- receive on a handle
abbrev pub is_done_at_once_kind : Kind ℕ → Bool
is_done_at_once_kind (Send mode blocking message) = is_buffered_mode mode
is_done_at_once_kind (MatchedReceive blocking) = true
is_done_at_once_kind kind = false

abbrev pub is_done_at_once_call : Option Call → Bool
is_done_at_once_call None = false
is_done_at_once_call (Some call) = is_done_at_once_kind call.kind

-- A call of this kind returns at once, whatever happens: it is nonblocking, or a send in buffered
-- mode, or the receive on a handle, or the wait for one of the last two.
abbrev pub returns_at_once_kind : MpiProgram → Kind ℕ → Bool
returns_at_once_kind p (Send mode blocking message) = not blocking || is_buffered_mode mode
returns_at_once_kind p (Receive blocking pattern) = not blocking
returns_at_once_kind p (MatchedProbe pattern receive) = false
returns_at_once_kind p (Probe pattern) = false
returns_at_once_kind p (MatchedReceive blocking) = true
returns_at_once_kind p (Wait operation) = is_done_at_once_call (call_at p operation)

abbrev pub returns_at_once_call : MpiProgram → Option Call → Bool
returns_at_once_call p None = false
returns_at_once_call p (Some call) = returns_at_once_kind p call.kind

-- the call exists, and returns at once
abbrev pub returns_at_once : MpiProgram → ℕ → Bool
returns_at_once p c = returns_at_once_call p (call_at p c)

abbrev pub is_receive_kind : Kind ℕ → Bool
is_receive_kind (Receive blocking pattern) = true
is_receive_kind kind = false

abbrev pub is_receive_call : Option Call → Bool
is_receive_call None = false
is_receive_call (Some call) = is_receive_kind call.kind

-- the call is the wait for the receive
pub record IsWaitFor (p : MpiProgram) (c receive : ℕ) : Type 0 where
  pub call : Call
  pub there : call_at p c ≡ Some call
  pub waits : call.kind ≡ Wait receive
  pub receives : IsTrue (is_receive_call (call_at p receive))

-- the call waits for a receive before it in its span
pub record WaitsWithin (p : MpiProgram) (block : Blocks) (c : ℕ) : Type 0 where
  pub receive : ℕ
  pub wait : IsWaitFor p c receive
  pub before : receive < c
  pub within : block receive ≡ block c

-- Why the call may stand in its span: a finder fetches what it finds without waiting, and the same
-- sends fit it as the span's first call; any other call returns at once, or waits for a receive of
-- the span.
pub record IsMember (p : MpiProgram) (block : Blocks) (c : ℕ) : Type 0 where
  pub prompt : IsTrue (is_finder p c) → IsPrompt p c
  pub alike : IsTrue (is_finder p c) → (s : ℕ) → are_fit p s c ≡ are_fit p s (block c)
  pub returns : IsTrue (is_finder p c) ⊎ (IsTrue (returns_at_once p c) ⊎ WaitsWithin p block c)

-- why the call and the next one may stand in one span
pub record IsJoined (p : MpiProgram) (block : Blocks) (c : ℕ) : Type 0 where
  pub one : IsTrue (are_of_one_rank p c (suc c))
  pub here : IsMember p block c
  pub next : IsMember p block (suc c)

abbrev pub IsNamed : MpiProgram → Blocks → ℕ → Type 0
IsNamed p block c = (IsJoined p block c × (block (suc c) ≡ block c)) ⊎ (block (suc c) ≡ suc c)

-- each call has the name of the call before it, where the two may stand in one span, or has its own
-- place as its name
pub record AreSpans (p : MpiProgram) (block : Blocks) : Type 0 where
  pub first : block 0 ≡ 0
  pub next : (c : ℕ) → IsNamed p block c

-- such names are names of blocks
abbrev pub SpansAreBlocks : Type 0
SpansAreBlocks = (p : MpiProgram) (block : Blocks) → AreSpans p block → AreBlocks p block

-- ---- how far spans reach

abbrev pub pattern_of_call : Option Call → Option Pattern
pattern_of_call None = None
pattern_of_call (Some call) = pattern_of call.kind

-- what the call finds, where it exists and is a receive, a matched probe or a probe
abbrev pub pattern_at : MpiProgram → ℕ → Option Pattern
pattern_at p c = pattern_of_call (call_at p c)

-- the two are of one rank, and find the same messages
abbrev pub AreAlike : MpiProgram → ℕ → ℕ → Type 0
AreAlike p one other = IsTrue (are_of_one_rank p one other) × (pattern_at p one ≡ pattern_at p other)

-- the receive on the probe's handle stands behind it, and each call between them returns at once
pub record IsReceivedAtOnce (p : MpiProgram) (probe receive : ℕ) : Type 0 where
  pub behind : probe < receive
  pub one : IsTrue (are_of_one_rank p probe receive)
  pub between : (c : ℕ) → probe < c → c < receive → IsTrue (returns_at_once p c)

abbrev pub FetchesAtOnceCall : MpiProgram → ℕ → Kind ℕ → Type 0
FetchesAtOnceCall p c (Receive blocking pattern) = Unit {0}
FetchesAtOnceCall p c (MatchedProbe pattern receive) = IsReceivedAtOnce p c receive
FetchesAtOnceCall p c kind = ⊥

-- The call is a receive, or a matched probe that is received at once: it fetches what it finds
-- without waiting.
abbrev pub FetchesAtOnce : MpiProgram → ℕ → Type 0
FetchesAtOnce p c = (call : Call) × (call_at p c ≡ Some call) × FetchesAtOnceCall p c call.kind

-- a span may begin with the call: it takes messages of any source, and fetches at once
abbrev pub MayBegin : MpiProgram → ℕ → Type 0
MayBegin p c = (pattern : Pattern) × (pattern_at p c ≡ Some pattern) × (pattern.source ≡ None) × FetchesAtOnce p c

-- the call waits for a receive before it, which stands no earlier than the span's first call
pub record WaitsFrom (p : MpiProgram) (first c : ℕ) : Type 0 where
  pub receive : ℕ
  pub wait : IsWaitFor p c receive
  pub from : first ≤ receive
  pub before : receive < c

-- The call may stand in a span with this first call: it fetches at once and finds the same messages;
-- or it is none that finds messages, of the same rank, and returns at once, or waits for a receive of
-- the span.
pub record MayFollow (p : MpiProgram) (first c : ℕ) : Type 0 where
  pub one : IsTrue (are_of_one_rank p first c)
  pub finds : IsTrue (is_finder p c) → FetchesAtOnce p c × (pattern_at p first ≡ pattern_at p c)
  pub other : is_finder p c ≡ false → IsTrue (returns_at_once p c) ⊎ WaitsFrom p first c

-- A span may reach from one call to another: it may begin with the one, the other finds messages,
-- and each call up to it may stand in it.
pub record IsStretch (p : MpiProgram) (f g : ℕ) : Type 0 where
  pub up : f < g
  pub begins : MayBegin p f
  pub finds : IsTrue (is_finder p g)
  pub follow : (c : ℕ) → f < c → c ≤ g → MayFollow p f c

-- the two have found one message, or messages of one rank
abbrev pub HaveOneSender : MpiProgram → Configuration → ℕ → ℕ → Type 0
HaveOneSender p e f g = (a b : ℕ) → partner_of e f ≡ Some a → partner_of e g ≡ Some b → (a ≡ b) ⊎ IsTrue (are_of_one_rank p a b)

-- Wherever a span may reach from one call to another they stand in one, unless they found messages of
-- one rank: a span of such ones alone is left as it is, since no other send of that rank races for a
-- receive that is a block of its own.
abbrev pub AreWidest : MpiProgram → Configuration → Blocks → Type 0
AreWidest p e block = (f g : ℕ) → IsStretch p f g → (block f ≡ block g) ⊎ HaveOneSender p e f g
