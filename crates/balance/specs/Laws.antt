-- What it means that a channel's sends and takers differ in number.
use Rattle.std.specs.Prelude.{◌≡◌, ◌<◌, ◌≤◌, ◌+◌, ℕ, Bool, IsTrue, List, length, not, Some}
use Rattle.std.specs.List.{count_by}
use Rattle.calltext.specs.declared.limits.Limits.{Limits}
use Rattle.callorder.specs.declared.calls.Call.{Call}
use Rattle.callorder.specs.ProgramRules.{IsProgramWithin}
use Rattle.callorder.specs.Programs.{MpiProgram, call_at, takes}
use Rattle.semantics.specs.declared.state.Step.{Step}
use Rattle.semantics.specs.RunEnds.{IsFinishedRun}
use Rattle.semantics.specs.Machine.{Configuration, IsRun, after_all, is_matched, opening}
use Rattle.races.specs.Races.{StartsAreWaitedFor}
use Rattle.run_laws.specs.Laws.{IsInRankOrder}
use Rattle.balance.specs.declared.counting.Imbalance.{Imbalance}
use Rattle.balance.specs.Balance.{channel_at, IsImbalance}

-- A send that a taker may take is of the taker's channel.
abbrev pub ChannelsAreClosed : Type 0
ChannelsAreClosed = (p : MpiProgram) (send taker : ℕ) → IsTrue (takes p send taker) → channel_at p send ≡ channel_at p taker

-- each call is one of a rank of the program, as in each program (`in_range` of `IsProgram`)
abbrev pub RanksExist : MpiProgram → Type 0
RanksExist p = (c : ℕ) (call : Call) → call_at p c ≡ Some call → call.rank < p.ranks

-- Each program of a text within any limits has the ranks of its calls.
abbrev pub ProgramsHaveRanks : Type 0
ProgramsHaveRanks = (l : Limits) (p : MpiProgram) → IsProgramWithin l p → RanksExist p

-- Where a channel has more takers than sends, no run finishes.
abbrev pub MissingSendsStick : Type 0
MissingSendsStick =
    (p : MpiProgram) (sides : Imbalance) (steps : List Step) → IsInRankOrder p → StartsAreWaitedFor p → RanksExist p → IsImbalance p sides
    → length sides.sends.items < length sides.takers.items → IsFinishedRun p steps → ⊥

abbrev pub is_unmatched : Configuration → ℕ → Bool
is_unmatched e send = not (is_matched e send)

-- Where a channel has more sends than takers, in each run, however far it goes, at least as many
-- messages of it as there are sends more are taken by nobody.
abbrev pub MissingTakersLeaveMessages : Type 0
MissingTakersLeaveMessages =
    (p : MpiProgram) (sides : Imbalance) (steps : List Step) → IsInRankOrder p → IsImbalance p sides → IsRun p (opening p) steps
    → length sides.sends.items ≤ length sides.takers.items + count_by (is_unmatched (after_all (opening p) steps)) sides.sends.items
