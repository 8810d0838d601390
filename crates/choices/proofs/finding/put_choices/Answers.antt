use Rattle.std.proofs.Common.{arith}
use Rattle.semantics.proofs.Runs.{after_all_more}
use Rattle.choices.proofs.Replayed.{next_enabled}
use Rattle.choices.proofs.finding.put_choices.Goals as goal

pub apply-requires-clause-of : goal.apply-requires-clause-of
apply-requires-clause-of c = c.loop-place.invariant.taken.of

pub apply-requires-clause-enabled : goal.apply-requires-clause-enabled
apply-requires-clause-enabled c =
    next_enabled c.args.program.now c.args.steps.now c.loop-place.place c.loop-place.state _ c.requires (omega arith) c.loop-place.invariant.taken

pub loop-place-init : goal.loop-place-init
loop-place-init c = record { taken = record { of = c.in_ok-state.ensures.of; now = c.in_ok-state.ensures.opening }; found = λ all. all }

pub loop-place-preserved : goal.loop-place-preserved
loop-place-preserved c =
    record {
      taken = record {
        of = c.apply.ensures.of;
        now = after_all_more _ c.args.steps.now c.loop-place.place _ _ _ (omega arith) c.loop-place.invariant.taken.now c.apply.ensures.after;
      };
      found = λ all. c.in_ok-put_choice.ensures (c.loop-place.invariant.found all);
    }
