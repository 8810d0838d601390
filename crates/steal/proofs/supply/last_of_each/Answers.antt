use Rattle.steal.specs.parts.Rows.{no_row}
use Rattle.steal.proofs.Rows.{last_of_rows}
use Rattle.steal.proofs.supply.last_of_each.Goals as goal

pub loop-row-init : goal.loop-row-init
loop-row-init c = rw (c.new-left.ensures.items, c.new-seats.ensures.items) no_row

pub loop-row-preserved : goal.loop-row-preserved
loop-row-preserved c =
    rw (c.in_ok-push.ensures.items, c.in_ok-push-2.ensures.items)
    (last_of_rows c.loop-row.yielded c.loop-row.left.items c.loop-row.seats.items c.in-Some.row c.pop.new.self c.in-Some-pop.seat c.loop-row.invariant c.in-Some-pop.ensures.items)
