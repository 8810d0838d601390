use Rattle.steal.specs.parts.Rows.{thief_rows, EndInSeats}
use Rattle.steal.proofs.supply.last_of_each.Given as goal

abbrev pub invariant-loop-row : goal.invariant-loop-row
invariant-loop-row l = EndInSeats (thief_rows l.yielded) (thief_rows l.left.items) l.seats.items
