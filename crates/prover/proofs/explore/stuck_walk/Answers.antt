use Rattle.std.proofs.Common.{sym, subst}
use Rattle.semantics.specs.Machine.{IsStuckRun}
use Rattle.prover.proofs.Walks.{walk_finishes}
use Rattle.prover.proofs.explore.stuck_walk.Goals as goal

pub loop-turn-preserved : goal.loop-turn-preserved
loop-turn-preserved c =
    let p = c.args.program.now in
    let steps = c.in_ok-steps.steps.items in
    λ t. (
      steps,
      walk_finishes p steps c.in_ok-steps.ensures
          (λ stuck. let is = c.in_ok-is_stuck.ensures.1 (subst (IsStuckRun p) (sym c.deref.ensures.value) stuck) in absurd cc),
    )
