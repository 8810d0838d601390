use Rattle.std.proofs.Common.{sym, subst}
use Rattle.sharedpool.specs.Seats.{Chair, IsViewTold}
use Rattle.sharedpool.proofs.Told.{told_closed}
use Rattle.sharedpool.proofs.shared.SharedPoolShare.close.Goals as goal

pub invariant_of-seat : goal.invariant_of-seat
invariant_of-seat g c = (
  subst (λ (s : Chair). IsViewTold g.B.PoolName.opening.formula s.mine c.seat.inside.view) (sym c.close.ensures.seat) (told_closed g.B.PoolName.opening.formula c.seat.inside.ticket c.args.leaf c.args.number c.close.result c.seat.inside.view c.seat.invariant.0),
  c.seat.invariant.1,
)
