use Rattle.leastrun.proofs.Turns.{now_more, run_more}
use Rattle.leastrun.proofs.along.take_all.Goals as goal

pub loop-step-preserved : goal.loop-step-preserved
loop-step-preserved c =
    record {
      of = c.apply.ensures.of;
      now = now_more _ _ _ _ _ _ c.loop-step.invariant.now c.apply.ensures.after c.in_ok-push.ensures.items;
      run = run_more _ _ _ _ _ _ c.loop-step.invariant.now c.loop-step.invariant.run (c.enabled.ensures.0 c.if-not-enabled.false) c.in_ok-push.ensures.items;
    }
