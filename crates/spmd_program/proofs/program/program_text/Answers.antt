use Rattle.std.proofs.Common.{◌≡◌, ◌++◌, ℕ, List, ap, subst, ◌∙◌, arith}
use Rattle.calltext.specs.parts.Body.{heads}
use Rattle.spmd_program.specs.Programs.{policy_of_buffering}
use Rattle.spmd_program.proofs.RankTexts.{AreRanksBegun, all_ranks_begun, no_rank_begun, one_rank_begun}
use Rattle.spmd_program.proofs.program.program_text.Goals as goal

pub loop-rank-init : goal.loop-rank-init
loop-rank-init c = no_rank_begun c.args.names.now c.args.calls.now c.put_heads.new.out.items

pub loop-rank-preserved : goal.loop-rank-preserved
loop-rank-preserved c =
    one_rank_begun c.args.names.now c.args.calls.now c.loop-rank.left.now c.of_rank-parts.result.0.now c.of_rank-parts.result.1.now c.loop-rank.rank
    c.put_heads.new.out.items c.loop-rank.out.items c.put_rank.new.out.items c.of_rank-parts.ensures.parts c.of_rank-parts.ensures.own c.loop-rank.invariant
    c.in_ok-put_rank.ensures

pub returns : goal.returns
returns c =
    let whole : c.loop-rank.rank ≡ c.args.ranks = omega arith in
    let head : c.put_heads.new.out.items ≡ heads c.args.ranks (policy_of_buffering c.args.policy) =
    c.in_ok-put_heads.ensures ∙ ap (λ (t : List ℕ). t ++ heads c.args.ranks (policy_of_buffering c.args.policy)) c.new-out.ensures.items in
    all_ranks_begun c.args.policy c.args.names.now c.args.calls.now c.loop-rank.left.now c.args.ranks c.put_heads.new.out.items c.loop-rank.out.items head
    c.in_ok-none_left.ensures.none c.in_ok-some_ranks.ensures.some c.in_ok-some_ranks.ensures.most (omega (arith, c.loop-rank.out.small))
    (subst (λ (rank : ℕ). AreRanksBegun c.args.names.now c.args.calls.now c.loop-rank.left.now rank c.put_heads.new.out.items c.loop-rank.out.items) whole c.loop-rank.invariant)
