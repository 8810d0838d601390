use Rattle.std.proofs.Common.{length, refl, subst, sym, ap, arith, None}
use Rattle.leastrun.specs.parts.Waiting.{IsKept, IsFresh, fresh_after, IsNext, IsSettled}
use Rattle.leastrun.specs.LeastBuffered.{NothingEnabled}
use Rattle.leastrun.proofs.Entries.{at_none, at_some}
use Rattle.leastrun.proofs.Taking.{kept_after, still_fresh}
use Rattle.leastrun.proofs.Turns.{now_more, run_more, too_long, choice_more}
use Rattle.leastrun.proofs.Waitings.{none_fresh}
use Rattle.leastrun.proofs.walk.go_on.Goals as goal

pub loop-turn-init : goal.loop-turn-init
loop-turn-init c =
    let p = c.args.program.now in
    record {
      of = c.requires.reached.of;
      now = c.requires.reached.now;
      run = c.requires.reached.run;
      size = omega arith;
      kept = c.requires.kept;
      fresh = none_fresh p c.args.state None c.requires.none_open refl;
      choice = λ chosen. chosen;
    }

pub loop-turn-preserved : goal.loop-turn-preserved
loop-turn-preserved c =
    let p = c.args.program.now in
    let m = c.loop-turn.state in
    let step = c.in-Some.step in
    let next = at_some c.in_ok-next.next step (IsNext c.args.buffering p m) c.in-Some.is c.in_ok-next.ensures.some in
    let settled = at_some c.in_ok-next.next step (IsSettled c.next_step.new.fresh) c.in-Some.is c.in_ok-next.ensures.settled in
    record {
      of = c.apply.ensures.of;
      now = now_more _ _ _ _ _ _ c.loop-turn.invariant.now c.apply.ensures.after c.in_ok-push.ensures.items;
      run = run_more _ _ _ _ _ _ c.loop-turn.invariant.now c.loop-turn.invariant.run next.enabled c.in_ok-push.ensures.items;
      size = omega (arith, c.loop-turn.invariant.size, c.in_ok-push.ensures.len);
      kept = c.pass_by.ensures _
          (subst (λ z. IsKept p z c.apply.new.self c.next_step.new.tables) (sym c.fresh_after-fresh.ensures)
          (subst (λ z. IsKept p (fresh_after m c.next_step.new.fresh step) z c.next_step.new.tables) (sym c.apply.ensures.after)
          (kept_after c.args.buffering p m c.next_step.new.fresh c.next_step.new.tables step c.in_ok-next.ensures.kept next settled)));
      fresh =
          subst (λ z. IsFresh p c.apply.new.self z) (sym c.fresh_after-fresh.ensures)
          (subst (λ z. IsFresh p z (fresh_after m c.next_step.new.fresh step)) (sym c.apply.ensures.after)
          (still_fresh c.args.buffering p m c.next_step.new.fresh step c.in_ok-next.ensures.fresh next));
      choice = λ chosen. choice_more c.args.buffering p c.loop-turn.steps.items c.push.new.self.items step m c.loop-turn.invariant.now (c.loop-turn.invariant.choice chosen) next c.in_ok-push.ensures.items;
    }

pub returns-clause-ended : goal.returns-clause-ended
returns-clause-ended c none =
    absurd (too_long c.args.program.now c.loop-turn.steps.items (length c.args.steps.items) c.loop-turn.turn c.loop-turn.invariant.run c.loop-turn.invariant.size
    (omega (arith, c.loop-turn-test.false, ap length c.calls.ensures.value)))

pub returns-in_default-clause-ended : goal.returns-in_default-clause-ended
returns-in_default-clause-ended c none =
    at_none c.in_ok-next.next (NothingEnabled c.args.program.now c.loop-turn.state) c.in_default.is (c.in_ok-next.ensures.none none)
