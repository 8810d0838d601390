-- Parts of a program: where its calls stand in the whole.
use Rattle.std.specs.Prelude.{◌≡◌, ℕ, ◌+◌, ◌<◌, Some}
use Rattle.callorder.specs.declared.calls.Call.{Call}
use Rattle.callorder.specs.declared.calls.Kind.{Kind}
use Rattle.callorder.specs.Calls.{operation_of, is_start, receive_of, is_matched_receive, map_link}
use Rattle.callorder.specs.ProgramRules.{HasRanksBelow, IsPairing}
use Rattle.callorder.specs.Programs.{MpiProgram, call_at}
use Rattle.run_laws.specs.Laws.{IsInRankOrder}

-- What each program keeps, but for the limits on its ranks and calls, and for the order of a
-- matched probe and its receive.
pub record IsWellFormed (p : MpiProgram) : Type 0 where
  pub rank_order : IsInRankOrder p
  pub in_range : (c : ℕ) (call : Call) → call_at p c ≡ Some call → HasRanksBelow p.ranks call
  pub waits : IsPairing p.calls operation_of is_start
  pub waits_later : (c o : ℕ) (call : Call) → call_at p c ≡ Some call → operation_of call.kind ≡ Some o → o < c
  pub probes : IsPairing p.calls receive_of is_matched_receive

-- what a call does where all calls of its rank stand so many places further on: the calls that it
-- names stand there too
abbrev pub moved_kind : ℕ → Kind ℕ → Kind ℕ
moved_kind by kind = map_link (λ (o : ℕ). o + by) kind

abbrev pub moved_call : ℕ → Call → Call
moved_call by call = record { rank = call.rank; kind = moved_kind by call.kind }

-- Each call of the part is one of the whole; those of a rank stand all the same number of places
-- further on there.
pub record IsPart (whole part : MpiProgram) (moved : ℕ → ℕ) : Type 0 where
  pub policy : part.policy ≡ whole.policy
  pub ranks : part.ranks ≡ whole.ranks
  pub calls : (c : ℕ) (call : Call) → call_at part c ≡ Some call → call_at whole (c + moved call.rank) ≡ Some (moved_call (moved call.rank) call)

-- the call of the whole at this place is one of the part's
pub record IsFrom (part : MpiProgram) (moved : ℕ → ℕ) (c : ℕ) : Type 0 where
  pub place : ℕ
  pub call : Call
  pub there : call_at part place ≡ Some call
  pub is : c ≡ place + moved call.rank
