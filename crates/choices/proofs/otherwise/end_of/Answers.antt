use Rattle.std.proofs.Common.{ap, sym, ◌∙◌, arith}
use Rattle.semantics.specs.Machine.{Configuration, is_buffered}
use Rattle.semantics.proofs.Runs.{after_all_more}
use Rattle.choices.proofs.Buffered.{buffered_now, opening_unbuffered}
use Rattle.choices.proofs.Replayed.{next_enabled}
use Rattle.choices.proofs.otherwise.end_of.Goals as goal

pub apply-requires-clause-of : goal.apply-requires-clause-of
apply-requires-clause-of c = c.loop-step.invariant.taken.of

pub apply-requires-clause-enabled : goal.apply-requires-clause-enabled
apply-requires-clause-enabled c =
    next_enabled c.args.program.now c.args.steps.now c.loop-step.step-index c.loop-step.state _ c.requires (omega arith) c.loop-step.invariant.taken

pub loop-step-init : goal.loop-step-init
loop-step-init c =
    record {
      taken = record { of = c.in_ok-state.ensures.of; now = c.in_ok-state.ensures.opening };
      buffered = opening_unbuffered c.args.program.now c.in_ok-state.state c.args.call c.in_ok-state.ensures.opening;
    }

pub loop-step-preserved : goal.loop-step-preserved
loop-step-preserved c =
    let enabled = next_enabled c.args.program.now c.args.steps.now c.loop-step.step-index c.loop-step.state _ c.requires (omega arith) c.loop-step.invariant.taken in
    record {
      taken = record {
        of = c.apply.ensures.of;
        now = after_all_more _ c.args.steps.now c.loop-step.step-index _ _ _ (omega arith) c.loop-step.invariant.taken.now c.apply.ensures.after;
      };
      buffered =
          c.buffered_after-buffered.ensures
          ∙ buffered_now c.args.program.now c.loop-step.state _ c.args.call c.loop-step.buffered c.loop-step.invariant.taken.of enabled c.loop-step.invariant.buffered
          ∙ ap (λ (m : Configuration). is_buffered m c.args.call) (sym c.apply.ensures.after);
    }
