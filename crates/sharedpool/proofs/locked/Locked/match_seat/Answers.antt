use Rattle.std.proofs.Common.{sym, ap, ◌∙◌}
use Rattle.sharedpool.specs.declared.room.View.{View}
use Rattle.sharedpool.proofs.Legal.{locked_same, seat_same}
use Rattle.sharedpool.proofs.locked.Locked.match_seat.Goals as goal

pub match_lists-requires-clause-keeper_of : goal.match_lists-requires-clause-keeper_of
match_lists-requires-clause-keeper_of g c = c.self.invariant.of ∙ sym c.requires

pub match_lists-requires-clause-seat_of : goal.match_lists-requires-clause-seat_of
match_lists-requires-clause-seat_of g c = c.seat.invariant.of ∙ sym c.requires

pub match_lists-requires-clause-keeps : goal.match_lists-requires-clause-keeps
match_lists-requires-clause-keeps g c = ap (λ (v : View). v.keeps) c.self.invariant.knows

pub match_lists-requires-clause-sits : goal.match_lists-requires-clause-sits
match_lists-requires-clause-sits g c = ap (λ (v : View). v.sits) c.seat.invariant.knows

pub invariant_of-self : goal.invariant_of-self
invariant_of-self g c = locked_same _ _ _ _ _ _ _ _ c.self.invariant c.match_lists.ensures

pub invariant_of-seat : goal.invariant_of-seat
invariant_of-seat g c = seat_same _ _ _ _ _ _ c.seat.invariant c.match_lists.ensures
