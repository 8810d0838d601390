use Rattle.std.proofs.Common.{◌++◌, ◌∙◌}
use Rattle.prooflog.specs.Steps.{step_line}
use Rattle.prooflog.proofs.Schedules.{step_at, one_written}
use Rattle.prooflog.proofs.writer.put_steps.Goals as goal

pub written-requires : goal.written-requires
written-requires c = step_at c.args.steps.now c.requires c.loop-step.step-index _ c.loop-step-test.true

pub loop-step-preserved : goal.loop-step-preserved
loop-step-preserved c =
    c.in_ok-put_step.ensures ∙ (λ i. c.loop-step.invariant i ++ step_line (c.written.ensures i)) ∙ one_written c.args.out.now.items c.args.steps.now c.loop-step.step-index _ c.loop-step-test.true
