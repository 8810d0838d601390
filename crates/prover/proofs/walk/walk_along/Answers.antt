use Rattle.std.proofs.Common.{length, subst, ap, arith}
use Rattle.std.specs.Prelude.{IfSome}
use Rattle.semantics.specs.Machine.{IsEnabled}
use Rattle.prover.proofs.Walks.{now_more, run_more, too_long}
use Rattle.prover.proofs.walk.walk_along.Goals as goal

pub loop-turn-preserved : goal.loop-turn-preserved
loop-turn-preserved c =
    let enabled = subst (λ o. IfSome o (IsEnabled c.args.program.now c.loop-turn.state)) c.in-Some.is c.in_ok-step.ensures.some in
    record {
      of = c.apply.ensures.of;
      now = now_more _ _ _ _ _ _ c.loop-turn.invariant.now c.apply.ensures.after c.in_ok-push.ensures.items;
      run = run_more _ _ _ _ _ _ c.loop-turn.invariant.now c.loop-turn.invariant.run enabled c.in_ok-push.ensures.items;
      size = omega (arith, c.loop-turn.invariant.size, c.in_ok-push.ensures.len);
    }

pub returns : goal.returns
returns c =
    absurd (too_long c.args.program.now c.loop-turn.steps.items c.loop-turn.turn c.loop-turn.invariant.run c.loop-turn.invariant.size
    (omega (arith, c.loop-turn-test.false, ap length c.calls.ensures.value)))
