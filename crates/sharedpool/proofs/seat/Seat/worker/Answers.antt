use Rattle.std.proofs.Common.{rules}
use Rattle.sharedpool.proofs.seat.Seat.worker.Goals as goal

pub returns : goal.returns
returns g c = search rules
