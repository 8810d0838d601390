use Rattle.std.proofs.Common.{sym, subst}
use Rattle.sharedpool.specs.Seats.{Chair, IsViewTold}
use Rattle.sharedpool.proofs.Told.{told_fetched}
use Rattle.sharedpool.proofs.shared.SharedPoolShare.fetch.Goals as goal

pub invariant_of-seat : goal.invariant_of-seat
invariant_of-seat g c = (
  subst (λ (s : Chair). IsViewTold g.B.PoolName.opening.formula s.mine c.follow.new.view) (sym c.fetch-reply.ensures.seat) (told_fetched g.B.PoolName.opening.formula c.seat.inside.ticket c.args.from c.fetch-reply.result c.seat.inside.view c.follow.new.view c.seat.invariant.0 c.follow.ensures),
  c.seat.invariant.1,
)
