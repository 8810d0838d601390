-- A program in which one call leaves open no more than one way.
use Rattle.std.specs.Prelude.{◌≡◌, ℕ, Option, Some, None, length}
use Rattle.std.specs.Option.{option_map}
use Rattle.calltext.specs.declared.call.Mode.TheVariants.{Standard, Synchronous, Buffered}
use Rattle.callorder.specs.declared.calls.Call.{Call}
use Rattle.callorder.specs.declared.calls.Kind.{Kind}
use Rattle.callorder.specs.declared.calls.Kind.TheVariants.{Send, Receive, MatchedProbe, Probe}
use Rattle.callorder.specs.declared.calls.Pattern.{Pattern}
use Rattle.callorder.specs.Programs.{MpiProgram, call_at}
use Rattle.narrowing.specs.declared.taken.ChoiceTaken.{ChoiceTaken}
use Rattle.narrowing.specs.declared.taken.ChoiceTaken.TheVariants as taken

-- this number in the place of a star
abbrev pub without_star : Option ℕ → ℕ → Option ℕ
without_star None number = Some number
without_star (Some wanted) number = Some wanted

abbrev pub named_pattern : ℕ → ℕ → Pattern → Pattern
named_pattern source tag pattern = record pattern { source = without_star pattern.source source; tag = without_star pattern.tag tag }

-- The call of this kind with no more left open: a standard send in buffered mode, or synchronous,
-- or a call that finds messages with this source and this tag in the place of stars. Other calls
-- are as they were.
abbrev pub narrowed_kind : ChoiceTaken → Kind ℕ → Kind ℕ
narrowed_kind taken.Buffered (Send Standard blocking message) = Send Buffered blocking message
narrowed_kind taken.NotBuffered (Send Standard blocking message) = Send Synchronous blocking message
narrowed_kind (taken.Message source tag) (Receive blocking pattern) = Receive blocking (named_pattern source tag pattern)
narrowed_kind (taken.Message source tag) (MatchedProbe pattern receive) = MatchedProbe (named_pattern source tag pattern) receive
narrowed_kind (taken.Message source tag) (Probe pattern) = Probe (named_pattern source tag pattern)
narrowed_kind way kind = kind

abbrev pub narrowed_call : ChoiceTaken → Call → Call
narrowed_call way call = record call { kind = narrowed_kind way call.kind }

-- The second program is the first one, but that this call leaves open no more than this way.
pub record IsNarrowed (p : MpiProgram) (call : ℕ) (way : ChoiceTaken) (q : MpiProgram) : Type 0 where
  pub policy : q.policy ≡ p.policy
  pub ranks : q.ranks ≡ p.ranks
  pub length : length q.calls ≡ length p.calls
  pub there : call_at q call ≡ option_map (narrowed_call way) (call_at p call)
  pub elsewhere : (c : ℕ) → (c ≡ call → ⊥) → call_at q c ≡ call_at p c

-- the call at this place is as it was, or leaves open no more than this way where it is the one
-- that is meant
pub record IsNarrowedAt (p : MpiProgram) (call : ℕ) (way : ChoiceTaken) (q : MpiProgram) (place : ℕ) : Type 0 where
  pub same : (place ≡ call → ⊥) → call_at q place ≡ call_at p place
  pub narrowed : place ≡ call → call_at q place ≡ option_map (narrowed_call way) (call_at p place)
