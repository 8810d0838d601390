use Rattle.std.proofs.Common.{arith}
use Rattle.semantics.proofs.Runs.{after_all_more}
use Rattle.scene.proofs.Replayed.{next_enabled}
use Rattle.scene.proofs.choices.choices_of.Goals as goal

pub apply-requires-clause-of : goal.apply-requires-clause-of
apply-requires-clause-of c = c.loop-place.invariant.of

pub apply-requires-clause-enabled : goal.apply-requires-clause-enabled
apply-requires-clause-enabled c =
    next_enabled c.args.program.now c.args.steps.now c.loop-place.place c.loop-place.state _ c.requires (omega arith) c.loop-place.invariant

pub loop-place-init : goal.loop-place-init
loop-place-init c = record { of = c.in_ok-state.ensures.of; now = c.in_ok-state.ensures.opening }

pub loop-place-preserved : goal.loop-place-preserved
loop-place-preserved c =
    record {
      of = c.apply.ensures.of;
      now = after_all_more _ c.args.steps.now c.loop-place.place _ _ _ (omega arith) c.loop-place.invariant.now c.apply.ensures.after;
    }
