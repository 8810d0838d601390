use Rattle.std.proofs.Common.{length, refl, arith}
use Rattle.std.proofs.lemmas.Option.{slice_get_within}
use Rattle.phases.proofs.Dealt.{one_more, own_inside, stands_below}
use Rattle.phases.proofs.dealing.move_on.Goals as goal

pub overflow_add-next : goal.overflow_add-next
overflow_add-next c =
    let stands = c.stands_at.ensures.exact.0 c.if-not-stands_at.false in
    let below = stands_below c.args.program.now _ _ c.loop-place.place stands in
    omega (arith, below, c.stands_at.ensures.kept.few_calls)

pub bounds-next-rank-in-loop-place-2 : goal.bounds-next-rank-in-loop-place-2
bounds-next-rank-in-loop-place-2 c = own_inside c.args.calls.now c.args.next.now c.loop-place.next c.loop-place.place _ c.requires.ranks c.loop-place-test.true c.loop-place.auto.next

pub loop-place-preserved : goal.loop-place-preserved
loop-place-preserved c =
    one_more c.args.program.now c.args.calls.now c.args.next.now c.loop-place.next c.loop-place.place _ c.loop-place-test.true
    (own_inside c.args.calls.now c.args.next.now c.args.next.now c.loop-place.place _ c.requires.ranks c.loop-place-test.true refl) c.loop-place.invariant (c.stands_at.ensures.exact.0 c.if-not-stands_at.false)

pub returns-clause-stops : goal.returns-clause-stops
returns-clause-stops c call there stands = omega (arith, slice_get_within c.args.calls.now (length c.args.calls.now) call there)
