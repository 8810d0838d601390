use Rattle.std.proofs.Common.{◌∙◌, ap, sym, refl, subst, rules}
use Rattle.sharedpool.specs.Views.{items_of}
use Rattle.sharedpool.specs.parts.Seats.{Shared}
use Rattle.sharedpool.specs.Seats.{Chair, IsRefusedOver}
use Rattle.sharedpool.proofs.Growth.{refused_call}
use Rattle.sharedpool.proofs.Told.{derived_behind}
use Rattle.pool.proofs.Renumbered.{some_so}
use Rattle.pool.proofs.Calls.{publish_step}
use Rattle.sharedpool.proofs.Legal.{ready, locked_more}
use Rattle.sharedpool.proofs.locked.Locked.publish.Goals as goal

pub note-requires : goal.note-requires
note-requires g c = ready _ _ _ _ _ _ _ _ _ c.requires.room c.self.invariant c.seat.invariant refl

pub invariant_of-self-2 : goal.invariant_of-self-2
invariant_of-self-2 g c =
    let reply = c.publish_as-reply.ensures in
    locked_more _ _ _ _ _ _ _ _ _ _ c.self.invariant c.note.ensures reply.pool
    (publish_step c.self.inside.pool.held c.seat.inside.worker c.args.batch.now.lines.items c.publish_as-reply.result (λ e. search rules) reply.reply)

pub returns-clause-not_derived : goal.returns-clause-not_derived
returns-clause-not_derived g c place is =
    let batch = c.args.batch.now.lines.items in
    subst (λ (s : Chair). IsRefusedOver g.B.PoolName.opening.formula s.mine batch place) (c.seat.view_is ∙ c.match_seat.ensures.seat)
    (refused_call _ _ _ _ _ _ _ _ _ _ batch c.publish_as-reply.result c.self.invariant c.seat.invariant c.note.ensures c.publish_as-reply.ensures.reply place is)

pub returns-clause-seat : goal.returns-clause-seat
returns-clause-seat g c = search rules

pub returns-clause-reply : goal.returns-clause-reply
returns-clause-reply g c = search rules

pub publish_as-reply-requires-clause-derived : goal.publish_as-reply-requires-clause-derived
publish_as-reply-requires-clause-derived g c =
    let all = ap (λ (s : Shared). s.items) (c.self.view_is ∙ c.match_seat.ensures.same) in
    let mine = c.match_seat.ensures.mine ∙ ap (items_of c.args.seat.now.worker) (sym all) in
    some_so c.args.derived (λ derived. derived_behind _ _ _ _ _ _ _ _ _ c.self.invariant mine c.requires.told derived) c.requires.derived
