use Rattle.std.proofs.Common.{◌∙◌, refl, ap, subst, rules}
use Rattle.pool.specs.Calls.{after_found}
use Rattle.pool.specs.States.{IsFoundReply}
use Rattle.pool.proofs.Calls.{found_step}
use Rattle.sharedpool.proofs.Legal.{ready, locked_more}
use Rattle.sharedpool.proofs.locked.Locked.found_as.Goals as goal

pub note-requires : goal.note-requires
note-requires g c = ready _ _ _ _ _ _ _ _ _ c.requires.cell c.self.invariant c.seat.invariant refl

pub invariant_of-self-2 : goal.invariant_of-self-2
invariant_of-self-2 g c =
    let reply = c.found-reply.ensures in
    let h = c.self.inside.pool in
    let worker = c.seat.inside.worker in
    let result = c.found-reply.result in
    locked_more _ _ _ _ _ _ _ _ _ _ c.self.invariant c.note.ensures
    (reply.pool ∙ ap (λ steps. after_found h worker steps result) c.requires.steps)
    (found_step h.held worker g.S.StepsName.steps result (λ e. search rules) (subst (λ steps. IsFoundReply h.held steps result) c.requires.steps reply.reply))

pub returns-clause-seat : goal.returns-clause-seat
returns-clause-seat g c = search rules

pub returns-clause-reply : goal.returns-clause-reply
returns-clause-reply g c = search rules
