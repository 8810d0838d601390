use Rattle.std.proofs.Common.{refl}
use Rattle.phases.proofs.Dealt.{own_inside, some_back}
use Rattle.phases.proofs.dealing.move_back.Goals as goal

pub bounds-next-call-in-loop-call : goal.bounds-next-call-in-loop-call
bounds-next-call-in-loop-call c = own_inside c.args.calls.now c.args.next.now c.loop-call.next c.loop-call.call-index _ c.requires.ranks c.loop-call-test.true c.loop-call.auto.next

pub overflow_sub-next : goal.overflow_sub-next
overflow_sub-next c =
    some_back c.args.calls.now c.args.next.now c.loop-call.next c.loop-call.call-index _ c.loop-call-test.true
    (own_inside c.args.calls.now c.args.next.now c.loop-call.next c.loop-call.call-index _ c.requires.ranks c.loop-call-test.true c.loop-call.auto.next) c.loop-call.invariant
    (c.requires.room _ (own_inside c.args.calls.now c.args.next.now c.args.next.now c.loop-call.call-index _ c.requires.ranks c.loop-call-test.true refl))
