use Rattle.std.proofs.Common.{ℕ, ◌+◌, List, sym, ◌∙◌, subst}
use Rattle.std.proofs.lemmas.List.{with_items_is}
use Rattle.phases.specs.Rests.{IsRest}
use Rattle.phase_checker.proofs.Dealing.{IsDealtTo, dealt_further, still_before}
use Rattle.phase_checker.proofs.joining.deal_all.Goals as goal

pub loop-place-preserved : goal.loop-place-preserved
loop-place-preserved c =
    let p = c.args.program.now in
    let phases = c.args.phases.now in
    let order = c.args.order.now in
    let place = c.loop-place.place in
    let so_far = c.loop-place.invariant.so_far in
    let new = c.deal_at.new.next in
    let here = c.in-Ok-deal_at.ensures.dealt so_far.q (subst (λ (next : List ℕ). IsRest p next so_far.q) (sym c.deref_mut.ensures.value) so_far.rest) in
    let more = dealt_further phases order c.loop-place.next.items new p place so_far here in
    record {
      so_far =
          subst (λ (next : List ℕ). IsDealtTo phases order p next (place + 1))
          (sym (with_items_is c.loop-place.next new (more.rest.places ∙ sym so_far.rest.places ∙ sym c.loop-place.next.ok.0))) more;
      before = still_before phases order new place p so_far.q c.args.early c.requires c.loop-place.invariant.before here;
    }
