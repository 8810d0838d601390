use Rattle.std.proofs.Common.{◌≡◌, ◌<◌, false, true≢false, refl, sym, ap, ◌∙◌}
use Rattle.crossbeam_utils.specs.Seq.{cell_view}
use Rattle.pool.specs.States.{leave_item}
use Rattle.sharedpool.specs.parts.Leaves.{has_entry, places_after}
use Rattle.sharedpool.specs.Leaves.{has_left}
use Rattle.sharedpool.specs.Views.{items_of}
use Rattle.sharedpool.specs.Seats.{Chair, told_leave}
use Rattle.sharedpool.proofs.Legal.{ready, locked_with, seat_told, mine_as, below_as}
use Rattle.sharedpool.proofs.Places.{place_kept, places_left, left_as}
use Rattle.sharedpool.proofs.locked.Locked.leave.Goals as goal

pub note-requires : goal.note-requires
note-requires g c = ready _ _ _ _ _ _ _ _ _ c.requires c.self.invariant c.seat.invariant refl

pub invariant_of-self-2 : goal.invariant_of-self-2
invariant_of-self-2 g c =
    let worker = c.seat.inside.worker in
    let old = c.self.inside.pool in
    let items = (cell_view c.self.inside.keeper).all in
    let was = c.self.invariant in
    let low : worker < c.self.inside.workers = below_as _ _ _ _ (c.seat.view_is ∙ c.match_seat.ensures.seat) (c.self.view_is ∙ c.match_seat.ensures.same) c.match_seat.ensures.below in
    let left = left_as worker items ∙ ap (has_entry worker) (sym was.legal.entries) in
    locked_with _ _ _ _ _ _ _ _ _ _ (places_after (has_entry worker old.history) old.places) was c.note.ensures c.in_ok-leave_pool.ensures.ok tt
    (places_left c.self.inside.workers worker old.places items (leave_item worker c.args.why) (has_entry worker old.history) refl refl low was.places left)

pub returns-clause-ok : goal.returns-clause-ok
returns-clause-ok g c =
    let item = leave_item c.seat.inside.worker c.args.why in
    seat_told c.seat.inside.worker _ _ _ _ item c.note.ensures ∙ ap (λ (s : Chair). told_leave s c.args.why) (c.seat.view_is ∙ c.match_seat.ensures.seat)

pub returns-clause-first : goal.returns-clause-first
returns-clause-first g c = λ _. refl

pub returns-in_err-leave_pool-clause-first : goal.returns-in_err-leave_pool-clause-first
returns-in_err-leave_pool-clause-first g c = λ none.
    let worker = c.seat.inside.worker in
    let items = (cell_view c.self.inside.keeper).all in
    let was = c.self.invariant in
    let seat_is = c.seat.view_is ∙ c.match_seat.ensures.seat in
    let self_is = c.self.view_is ∙ c.match_seat.ensures.same in
    let low : worker < c.self.inside.workers = below_as _ _ _ _ seat_is self_is c.match_seat.ensures.below in
    let mine : (cell_view c.seat.inside.pass).mine ≡ items_of worker items = mine_as _ _ _ _ seat_is self_is c.match_seat.ensures.mine in
    let here : has_left (items_of worker items) ≡ false = ap has_left (sym mine) ∙ ap (λ (s : Chair). has_left s.mine) seat_is ∙ none in
    let never = c.in_err-leave_pool.ensures.first (ap (has_entry worker) was.legal.entries ∙ sym (left_as worker items) ∙ here)
    (place_kept c.self.inside.workers worker c.self.inside.pool.places items low was.places here) in
    absurd (true≢false (sym never))
