use Rattle.std.proofs.Common.{◌++◌, false, List, ℕ, get_or, ap, ◌∙◌}
use Rattle.semantics.specs.declared.state.Step.{Step}
use Rattle.semantics.specs.declared.state.Step.TheVariants.{Issue}
use Rattle.prooflog.specs.Steps.{step_line, written}
use Rattle.prooflog.proofs.Schedules.{one_written}
use Rattle.deciding.proofs.schedule.put_steps.Goals as goal

pub loop-step-preserved : goal.loop-step-preserved
loop-step-preserved c =
    let step : Step = get_or c.args.steps.now c.loop-step.step-index (Issue 0 false) in
    c.in_ok-put_step.ensures ∙ ap (λ (out : List ℕ). out ++ step_line (written step)) c.loop-step.invariant ∙ one_written c.args.out.now.items c.args.steps.now c.loop-step.step-index (Issue 0 false) c.loop-step-test.true
