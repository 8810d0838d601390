-- Laws of runs: where a match is enabled, and in which order calls are issued and matched.
use Rattle.std.specs.Prelude.{◌≡◌, ℕ, ◌+◌, ◌<◌, ◌≤◌, ◌⊎◌, Bool, true, false, IsTrue, List, Some, slice_get, take}
use Rattle.callorder.specs.declared.calls.Call.{Call}
use Rattle.callorder.specs.declared.calls.Kind.{Kind}
use Rattle.callorder.specs.declared.calls.Kind.TheVariants.{Receive, MatchedProbe}
use Rattle.callorder.specs.Programs.{MpiProgram, call_at, are_fit, is_probe, takes, are_of_one_rank}
use Rattle.semantics.specs.declared.state.Step.{Step}
use Rattle.semantics.specs.declared.state.Step.TheVariants.{Match}
use Rattle.semantics.specs.Machine.{Configuration, CanFind, IsEnabled, IsRun, IsStuck, opening, after_all, is_issued, is_matched, is_returned}
use Rattle.run_laws.specs.Places.{IsIssuedAt, IsMatchedAt, IsIssuedBefore, IsSendMatchedBefore, IsTakerMatchedBefore, IsFoundAt, find_step}

-- ---- where a match or a see is enabled

-- a send and a finder that fit are issued, the send is unmatched, and the finder has found none
pub record IsOpenPair (p : MpiProgram) (m : Configuration) (send finder : ℕ) : Type 0 where
  pub send_issued : IsTrue (is_issued p m send)
  pub finder_issued : IsTrue (is_issued p m finder)
  pub send_open : is_matched m send ≡ false
  pub finder_open : is_matched m finder ≡ false
  pub fit : IsTrue (are_fit p send finder)

-- A find is possible of a send and a finder that are these two or earlier calls of their ranks.
pub record SomeFindUpTo (p : MpiProgram) (m : Configuration) (last_send last_finder : ℕ) : Type 0 where
  pub send : ℕ
  pub finder : ℕ
  pub no_later_send : send ≤ last_send
  pub no_later_finder : finder ≤ last_finder
  pub send_rank : IsTrue (are_of_one_rank p send last_send)
  pub finder_rank : IsTrue (are_of_one_rank p finder last_finder)
  pub can : CanFind p m send finder

-- Where a send and a finder that fit are issued, the send is unmatched and the finder has found
-- none, a find is possible, of these two or of earlier calls of their ranks.
abbrev pub SomeFindIsPossible : Type 0
SomeFindIsPossible =
    (p : MpiProgram) (m : Configuration) (send finder : ℕ) → IsOpenPair p m send finder → SomeFindUpTo p m send finder

-- a match or a see is enabled
pub record SomeMatchOrSee (p : MpiProgram) (m : Configuration) : Type 0 where
  pub send : ℕ
  pub finder : ℕ
  pub enabled : IsEnabled p m (find_step (is_probe p finder) send finder)

-- Where a send and a finder that fit are issued, the send is unmatched and the finder has found
-- none, some match or see is enabled.
abbrev pub SomeMatchOrSeeIsEnabled : Type 0
SomeMatchOrSeeIsEnabled =
    (p : MpiProgram) (m : Configuration) (send finder : ℕ) → IsOpenPair p m send finder → SomeMatchOrSee p m

-- In a stuck configuration one of two issued calls that fit is matched.
abbrev pub NoOpenPairWhereStuck : Type 0
NoOpenPairWhereStuck =
    (p : MpiProgram) (m : Configuration) (send taker : ℕ) → IsStuck p m → IsTrue (is_issued p m send) → IsTrue (is_issued p m taker)
    → IsTrue (are_fit p send taker) → IsTrue (is_matched m send) ⊎ IsTrue (is_matched m taker)

-- ---- non-overtaking

-- Where by a step of a run a finder finds a send, each earlier send of the send's rank that fits
-- the finder is matched by an earlier step.
abbrev pub EarlierSendsMatchFirst : Type 0
EarlierSendsMatchFirst =
    (p : MpiProgram) (steps : List Step) (place send finder earlier : ℕ) (sees : Bool) → IsRun p (opening p) steps → slice_get steps place ≡ Some (find_step sees send finder)
    → earlier < send → IsTrue (are_of_one_rank p earlier send) → IsTrue (are_fit p earlier finder) → IsSendMatchedBefore steps earlier place

-- Where by a step of a run a finder finds a send, each earlier taker of the finder's rank that the
-- send fits is matched by an earlier step.
abbrev pub EarlierTakersMatchFirst : Type 0
EarlierTakersMatchFirst =
    (p : MpiProgram) (steps : List Step) (place send finder earlier : ℕ) (sees : Bool) → IsRun p (opening p) steps → slice_get steps place ≡ Some (find_step sees send finder)
    → earlier < finder → IsTrue (are_of_one_rank p earlier finder) → IsTrue (takes p send earlier) → IsTakerMatchedBefore steps earlier place

-- ---- the order within a rank

-- no call stands before one of a lower rank, as in each program (`rank_order` of `IsProgram`)
abbrev pub IsInRankOrder : MpiProgram → Type 0
IsInRankOrder p =
    (c d : ℕ) (call other : Call) → c ≤ d → slice_get p.calls c ≡ Some call → slice_get p.calls d ≡ Some other → call.rank ≤ other.rank

-- The send and the taker that a step of a run matches are issued by earlier steps.
abbrev pub IssuedBeforeMatched : Type 0
IssuedBeforeMatched =
    (p : MpiProgram) (steps : List Step) (place send taker : ℕ) → IsInRankOrder p → IsRun p (opening p) steps → slice_get steps place ≡ Some (Match send taker)
    → IsIssuedBefore (opening p) steps send place × IsIssuedBefore (opening p) steps taker place

-- Where a step of a run issues a call, each earlier call of its rank is issued by an earlier step.
abbrev pub EarlierCallsIssueFirst : Type 0
EarlierCallsIssueFirst =
    (p : MpiProgram) (steps : List Step) (place call earlier : ℕ) → IsInRankOrder p → IsRun p (opening p) steps → IsIssuedAt (opening p) steps call place
    → earlier < call → IsTrue (are_of_one_rank p earlier call) → IsIssuedBefore (opening p) steps earlier place

-- Where a step of a run issues a call, the call before it in its rank has returned.
abbrev pub CallBeforeHasReturned : Type 0
CallBeforeHasReturned =
    (p : MpiProgram) (steps : List Step) (place call : ℕ) → IsRun p (opening p) steps → IsIssuedAt (opening p) steps (call + 1) place
    → IsTrue (are_of_one_rank p call (call + 1)) → IsTrue (is_returned p (after_all (opening p) (take place steps)) call)

-- a blocking receive or a matched probe
abbrev pub is_blocking_taker : Kind ℕ → Bool
is_blocking_taker (Receive blocking pattern) = blocking
is_blocking_taker (MatchedProbe pattern receive) = true
is_blocking_taker kind = false

-- Where a step of a run issues a call, and the call before it in its rank is a blocking receive or
-- a matched probe, that taker is matched by an earlier step.
abbrev pub BlockingTakersMatchFirst : Type 0
BlockingTakersMatchFirst =
    (p : MpiProgram) (steps : List Step) (place taker : ℕ) (call : Call) → IsRun p (opening p) steps → IsIssuedAt (opening p) steps (taker + 1) place
    → call_at p taker ≡ Some call → IsTrue (is_blocking_taker call.kind) → IsTrue (are_of_one_rank p taker (taker + 1)) → IsTakerMatchedBefore steps taker place

-- ---- each call once

-- In a run no call is matched by two steps.
abbrev pub MatchedOnce : Type 0
MatchedOnce =
    (p : MpiProgram) (steps : List Step) (call place other : ℕ) → IsRun p (opening p) steps → IsMatchedAt steps call place → IsMatchedAt steps call other
    → place ≡ other

-- In a run no call is issued by two steps.
abbrev pub IssuedOnce : Type 0
IssuedOnce =
    (p : MpiProgram) (steps : List Step) (call place other : ℕ) → IsRun p (opening p) steps → IsIssuedAt (opening p) steps call place
    → IsIssuedAt (opening p) steps call other → place ≡ other

-- In a run no finder finds a send by two steps.
abbrev pub FoundOnce : Type 0
FoundOnce =
    (p : MpiProgram) (steps : List Step) (finder place other : ℕ) → IsRun p (opening p) steps → IsFoundAt steps finder place → IsFoundAt steps finder other
    → place ≡ other
