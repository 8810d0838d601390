use Rattle.std.proofs.Common.{◌≡◌, ◌<◌, ◌∷◌, ap, sym, ◌∙◌, subst}
use Rattle.std.proofs.lemmas.List.Elements.{All-push}
use Rattle.crossbeam_utils.specs.Seq.{cell_view}
use Rattle.sharedpool.specs.declared.room.View.{View}
use Rattle.sharedpool.specs.parts.Views.{taker}
use Rattle.sharedpool.specs.Views.{items_of, AllBelow, IsNoneOf}
use Rattle.sharedpool.specs.Seats.{Chair}
use Rattle.sharedpool.proofs.Different.{seats_push, seats_none}
use Rattle.sharedpool.proofs.shared.take_all_back.Goals as goal

pub loop-seat-preserved : goal.loop-seat-preserved
loop-seat-preserved g c =
    let i = c.loop-seat.invariant in
    let t = c.hand_back.ensures in
    let seat = c.in-Some.seat in
    let keeper = cell_view c.args.keeper in
    let now = cell_view c.loop-seat.keeper in
    let before = c.loop-seat.yielded in
    let workers = ap (λ (v : View). v.workers) i.knows in
    let all = ap (λ (v : View). v.all) i.knows in
    record {
      of = t.of;
      knows =
          t.taken
          ∙ ap (λ n. taker n now.all (seat.worker ∷ now.taken)) workers
          ∙ ap (λ l. taker keeper.workers l (seat.worker ∷ now.taken)) all
          ∙ ap (taker keeper.workers keeper.all) (sym (ap (λ (v : View). v.taken) t.taken));
      mine = All-push (λ (s : Chair). s.mine ≡ items_of s.worker keeper.all) before seat i.mine (t.mine ∙ ap (items_of seat.worker) all);
      below = All-push (λ (s : Chair). s.worker < keeper.workers) before seat i.below (subst (λ n. seat.worker < n) workers t.below);
      different = seats_push before seat i.different (i.taken seat.worker t.different.0);
      taken = λ worker none.
          let told = subst (λ (v : View). IsNoneOf v.taken worker) t.taken none in
          seats_none before seat worker (i.taken worker told.1) told.0;
      others = λ _. subst (λ n. AllBelow n keeper.all) workers (subst (AllBelow now.workers) all t.others);
    }

pub hand_back-requires-clause-keeps : goal.hand_back-requires-clause-keeps
hand_back-requires-clause-keeps g c = ap (λ (v : View). v.keeps) c.loop-seat.invariant.knows
