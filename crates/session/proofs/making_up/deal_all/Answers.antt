-- One phase more is dealt, until all are.
use Rattle.std.proofs.Common.{◌∙◌, ℕ, ◌+◌, List, take, refl, sym, subst, arith}
use Rattle.std.proofs.lemmas.List.{take_all, with_items_is}
use Rattle.phases.specs.Rests.{IsRest}
use Rattle.session.specs.Phasing.{AreDealtInOrder}
use Rattle.session.proofs.MadeUp.{IsDealtTo, dealt_further}
use Rattle.session.proofs.making_up.deal_all.Goals as goal

pub loop-number-preserved : goal.loop-number-preserved
loop-number-preserved c =
    let p = c.args.program.now in
    let programs = c.args.programs.now in
    let order = c.args.order.now in
    let place = c.loop-number.number-index in
    let so_far = c.loop-number.invariant in
    let new = c.deal_one.new.next in
    let one = c.in_ok-deal_one.ensures so_far.q (subst (λ (next : List ℕ). IsRest p next so_far.q) (sym c.deref_mut.ensures.value) so_far.rest) in
    let more = dealt_further programs p c.loop-number.next.items new order place _ c.loop-number-test.true refl so_far one in
    subst (λ (next : List ℕ). IsDealtTo programs p next (take (place + 1) order))
    (sym (with_items_is c.loop-number.next new (more.rest.places ∙ sym so_far.rest.places ∙ sym c.loop-number.next.ok.0))) more

pub returns : goal.returns
returns c =
    let p = c.args.program.now in
    let order = c.args.order.now in
    let so_far = c.loop-number.invariant in
    let rest = subst (λ (next : List ℕ). IsRest p next so_far.q) (sym c.deref.ensures.value) so_far.rest in (
      so_far.q,
      subst (λ (numbers : List ℕ). AreDealtInOrder c.args.programs.now p numbers so_far.q) (take_all c.loop-number.number-index order (omega (arith, c.loop-number-test.false))) so_far.dealt,
      (c.is_all_dealt.ensures so_far.q rest).0 c.if-not-is_all_dealt.false,
    )
