use Rattle.std.proofs.Common.{◌≡◌, All, [], ◌∷◌, ◌++◌, List, length, sym, ap, ◌∙◌, subst, arith}
use Rattle.std.proofs.lemmas.List.{length-append}
use Rattle.std.proofs.lemmas.List.Elements.{All-push}
use Rattle.sharedpool.specs.declared.room.View.{View}
use Rattle.sharedpool.specs.parts.Views.{one_more}
use Rattle.sharedpool.specs.Seats.{AreNumbered, Chair}
use Rattle.sharedpool.proofs.Different.{numbered_push}
use Rattle.sharedpool.proofs.shared.make_seats.Goals as goal

pub take_seat-pass-requires-clause-keeper_of : goal.take_seat-pass-requires-clause-keeper_of
take_seat-pass-requires-clause-keeper_of g c = c.loop-worker.invariant.of ∙ sym c.requires.room.0

pub take_seat-pass-requires-clause-keeps : goal.take_seat-pass-requires-clause-keeps
take_seat-pass-requires-clause-keeps g c = ap (λ (v : View). v.keeps) c.loop-worker.invariant.knows

pub loop-worker-preserved : goal.loop-worker-preserved
loop-worker-preserved g c =
    let i = c.loop-worker.invariant in
    let before = c.loop-worker.seats.items in
    let seat = c.in_ok-new.field-0 in
    let items = c.push_reserved.ensures.items ∙ ap (λ (l : List Chair). l ++ seat ∷ []) c.in_ok-reserve.ensures.items in
    record {
      of = c.take_seat-pass.ensures.of ∙ i.of;
      knows = c.take_seat-pass.ensures.kept ∙ ap one_more i.knows;
      count = omega (arith, ap length items, length-append before (seat ∷ []), i.count);
      numbered = subst AreNumbered (sym items) (numbered_push before seat i.numbered (c.in_ok-new.ensures.worker ∙ sym i.count));
      fresh = subst (All (λ (s : Chair). s.mine ≡ [])) (sym items) (All-push (λ (s : Chair). s.mine ≡ []) before seat i.fresh c.in_ok-new.ensures.fresh);
    }
