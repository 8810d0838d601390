use Rattle.std.proofs.Common.{sym, subst}
use Rattle.sharedpool.specs.Seats.{Chair, IsViewTold}
use Rattle.sharedpool.proofs.Told.{told_stuck}
use Rattle.sharedpool.proofs.Growth.{found_stuck, found_not_stuck}
use Rattle.sharedpool.proofs.shared.SharedPoolShare.found.Goals as goal

pub returns-clause-stuck : goal.returns-clause-stuck
returns-clause-stuck g c = found_stuck g.B.PoolName.opening c.seat.inside.ticket c.args.steps.items c.found.result c.found.ensures.reply

pub returns-clause-not_stuck : goal.returns-clause-not_stuck
returns-clause-not_stuck g c = found_not_stuck g.B.PoolName.opening c.seat.inside.ticket c.args.steps.items c.found.result c.found.ensures.reply

pub invariant_of-seat : goal.invariant_of-seat
invariant_of-seat g c = (
  subst (λ (s : Chair). IsViewTold g.B.PoolName.opening.formula s.mine c.seat.inside.view) (sym c.found.ensures.seat) (told_stuck g.B.PoolName.opening.formula c.seat.inside.ticket c.args.steps.items c.found.result c.seat.inside.view c.seat.invariant.0),
  c.seat.invariant.1,
)
