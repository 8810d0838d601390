use Rattle.sharedpool.proofs.Told.{told_left}
use Rattle.sharedpool.proofs.shared.SharedPoolShare.leave.Goals as goal

pub invariant_of-seat : goal.invariant_of-seat
invariant_of-seat g c = (
  told_left g.B.PoolName.opening.formula c.seat.inside.ticket c.leave.new.seat c.args.why c.leave.result c.seat.inside.view c.leave.ensures.ok c.leave.ensures.err c.seat.invariant.0,
  c.seat.invariant.1,
)
