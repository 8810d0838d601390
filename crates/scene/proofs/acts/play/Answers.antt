use Rattle.std.proofs.Common.{◌++◌, ◌∷◌, [], ap, ◌∙◌, arith}
use Rattle.semantics.specs.Machine.{opening}
use Rattle.scene.specs.declared.acts.Act.{Act}
use Rattle.semantics.proofs.Runs.{after_all_more}
use Rattle.scene.proofs.Listed.{acts_more}
use Rattle.scene.proofs.Replayed.{next_enabled}
use Rattle.scene.proofs.acts.play.Goals as goal

pub apply-requires-clause-of : goal.apply-requires-clause-of
apply-requires-clause-of c = c.loop-step.invariant.taken.of

pub apply-requires-clause-enabled : goal.apply-requires-clause-enabled
apply-requires-clause-enabled c =
    next_enabled c.args.program.now c.args.steps.now c.loop-step.step-index c.loop-step.end _ c.requires (omega arith) c.loop-step.invariant.taken

pub loop-step-init : goal.loop-step-init
loop-step-init c = record { taken = record { of = c.in_ok-end.ensures.of; now = c.in_ok-end.ensures.opening }; told = c.new-acts.ensures.items }

pub loop-step-preserved : goal.loop-step-preserved
loop-step-preserved c =
    record {
      taken =
          record {
            of = c.apply.ensures.of;
            now = after_all_more _ c.args.steps.now c.loop-step.step-index _ _ _ (omega arith) c.loop-step.invariant.taken.now c.apply.ensures.after;
          };
      told =
          acts_more (opening c.args.program.now) c.loop-step.end c.args.steps.now c.loop-step.step-index _ c.loop-step.acts.items c.push.new.self.items c.loop-step-test.true c.loop-step.invariant.taken.now c.loop-step.invariant.told
          (c.in_ok-push.ensures.items ∙ ap (λ (a : Act). c.loop-step.acts.items ++ a ∷ []) c.act_of.ensures);
    }
