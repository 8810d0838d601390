use Rattle.std.proofs.Common.{◌≡◌, ℕ, ◌<◌, false, get_or}
use Rattle.callorder.specs.Programs.{call_at, is_of_rank}
use Rattle.phases.proofs.dealing.is_all_dealt.Given as goal

abbrev pub invariant-loop-rank : goal.invariant-loop-rank
invariant-loop-rank l = (k : ℕ) → k < l.rank → is_of_rank (call_at l.program (get_or l.next k 0)) k ≡ false
