use Rattle.std.proofs.Common.{sym, ◌∙◌, ◌+◌, ap, subst, List, ℕ, length, arith}
use Rattle.std.specs.Global.{Vec}
use Rattle.leastrun.proofs.Waitings.{AreOpenBelow, all_open, below_passed, below_put, none_below}
use Rattle.leastrun.proofs.along.open_calls.Goals.{then-is_open+in_ok-push, else-is_open}
use Rattle.leastrun.proofs.along.open_calls.Goals as goal

pub loop-call-init : goal.loop-call-init
loop-call-init c = none_below c.args.program.now c.args.state.now _ c.new-calls.ensures.items

pub loop-call-preserved : goal.loop-call-preserved
loop-call-preserved c =
    let p = c.args.program.now in
    let m = c.args.state.now in
    elim c.if-is_open.branch [
      | then-is_open+in_ok-push w ↦
          below_put p m c.loop-call.call c.loop-call.calls.items c.if-is_open.calls.items c.loop-call.invariant (sym c.is_open.ensures ∙ w.if-is_open.true)
          (ap (λ (v : Vec ℕ). v.items) w.calls-is ∙ w.in_ok-push.ensures.items)
      | else-is_open w ↦
          subst (λ (calls : List ℕ). AreOpenBelow p m (c.loop-call.call + 1) calls) (sym (ap (λ (v : Vec ℕ). v.items) w.calls-is))
          (below_passed p m c.loop-call.call c.loop-call.calls.items c.loop-call.invariant (sym c.is_open.ensures ∙ w.if-is_open.false))
    ]

pub returns : goal.returns
returns c = all_open c.args.program.now c.args.state.now c.loop-call.call c.loop-call.calls.items (omega (arith, c.loop-call-test.false, ap length c.calls-call-end.ensures.value)) c.loop-call.invariant
