use Rattle.std.proofs.Common.{refl, rules}
use Rattle.sharedpool.proofs.Legal.{ready, locked_more}
use Rattle.sharedpool.proofs.locked.Locked.close.Goals as goal

pub note-requires : goal.note-requires
note-requires g c = ready _ _ _ _ _ _ _ _ _ c.requires c.self.invariant c.seat.invariant refl

pub invariant_of-self-2 : goal.invariant_of-self-2
invariant_of-self-2 g c =
    let reply = c.close-reply.ensures in
    locked_more _ _ _ _ _ _ _ _ _ _ c.self.invariant c.note.ensures reply.pool (reply.reply, λ e. search rules)

pub returns-clause-seat : goal.returns-clause-seat
returns-clause-seat g c = search rules

pub returns-clause-reply : goal.returns-clause-reply
returns-clause-reply g c = search rules
