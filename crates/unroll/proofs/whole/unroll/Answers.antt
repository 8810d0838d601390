use Rattle.std.proofs.Common.{◌≡◌, ℕ, suc, ◌+◌, ◌-◌, sym, subst, refl, arith}
use Rattle.unroll.specs.declared.whole.Refusal.{Refusal}
use Rattle.unroll.specs.parts.Runs.{seen_run}
use Rattle.unroll.specs.Runs.{Outcome}
use Rattle.unroll.specs.Statements.{text_run}
use Rattle.unroll.specs.Whole.{IsFailure}
use Rattle.unroll.proofs.Ranks.{rank_refused, rank_done}
use Rattle.unroll.proofs.whole.unroll.Goals as goal

pub returns-in-Err-clause-err : goal.returns-in-Err-clause-err
returns-in-Err-clause-err c =
    let n : ℕ = c.args.size - c.loop-rank.rank in
    let m : ℕ = c.args.size - (c.loop-rank.rank + 1) in
    let more : n ≡ suc m = omega arith in
    let whole : Outcome = text_run c.args.program.now c.args.settings.now c.args.size c.args.barriers c.args.limits.calls c.args.limits.turns in
    subst (λ (x : Refusal). IsFailure x whole) (sym c.refused.ensures)
    (rank_refused n m c.args.program.now c.args.settings.now c.loop-rank.rank c.args.size c.args.barriers c.args.limits.calls c.args.limits.turns (seen_run c.loop-rank.machine) (seen_run c.run_rank.new.machine) c.in-Err.stop c.run_rank.new.machine.turns whole c.loop-rank.invariant more c.in-Err.ensures refl)

pub loop-rank-preserved : goal.loop-rank-preserved
loop-rank-preserved c =
    let n : ℕ = c.args.size - c.loop-rank.rank in
    let m : ℕ = c.args.size - (c.loop-rank.rank + 1) in
    let more : n ≡ suc m = omega arith in
    let whole : Outcome = text_run c.args.program.now c.args.settings.now c.args.size c.args.barriers c.args.limits.calls c.args.limits.turns in
    rank_done n m c.args.program.now c.args.settings.now c.loop-rank.rank c.args.size c.args.barriers c.args.limits.calls c.args.limits.turns (seen_run c.loop-rank.machine) (seen_run c.run_rank.new.machine) whole c.loop-rank.invariant more c.in-Ok.ensures
