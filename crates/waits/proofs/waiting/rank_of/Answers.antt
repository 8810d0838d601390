use Rattle.std.proofs.Common.{ℕ, true, IsTrue, refl, sym, ◌∙◌}
use Rattle.callorder.specs.Programs.{call_at, is_of_rank}
use Rattle.waits.proofs.NeededRanks.{if_ok, one_rank, own_call, own_other}
use Rattle.waits.proofs.waiting.rank_of.Goals as goal

pub returns-in-Some-clause-ranks : goal.returns-in-Some-clause-ranks
returns-in-Some-clause-ranks c =
    let there = sym c.call.ensures ∙ c.in-Some.is in
    if_ok _ _ c.alone.result (λ ranks has. one_rank c.in-Some.known.rank true (λ (rank : ℕ). IsTrue (is_of_rank (call_at c.args.program.now c.args.call) rank)) ranks.items has
    (λ _. own_call c.args.program.now c.args.call c.in-Some.known there, λ _. refl)
    (λ other own. own_other c.args.program.now c.args.call c.in-Some.known other there own)) c.alone.ensures.ranks
