use Rattle.semantics.proofs.Runs.{after_all_more}
use Rattle.reports.proofs.Tellings.{told_more, told_all}
use Rattle.prover.proofs.Walks.{enabled_there}
use Rattle.reports.proofs.steps.numbered.Goals as goal

pub put_told-requires-clause-enabled : goal.put_told-requires-clause-enabled
put_told-requires-clause-enabled c = enabled_there _ _ c.args.steps.now c.loop-step.step-index _ _ c.requires.run c.loop-step-test.true c.loop-step.invariant.now

pub apply-requires-clause-enabled : goal.apply-requires-clause-enabled
apply-requires-clause-enabled c = enabled_there _ _ c.args.steps.now c.loop-step.step-index _ _ c.requires.run c.loop-step-test.true c.loop-step.invariant.now

pub loop-step-preserved : goal.loop-step-preserved
loop-step-preserved c =
    record {
      of = c.apply.ensures.of;
      now = after_all_more _ c.args.steps.now c.loop-step.step-index _ _ _ c.loop-step-test.true c.loop-step.invariant.now c.apply.ensures.after;
      told = told_more c.args.program.now c.args.steps.now c.loop-step.step-index _ c.loop-step.state c.loop-step.text.items _ c.loop-step-test.true c.loop-step.invariant.now c.loop-step.invariant.told c.in_ok-put_told.ensures;
    }

pub returns : goal.returns
returns c = told_all c.args.program.now c.args.steps.now c.loop-step.step-index c.loop-step.text.items _ _ c.loop-step-test.false c.loop-step.invariant.told c.in_ok-extend_from_slice.ensures.items
