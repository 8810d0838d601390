use Rattle.charts.specs.Picture.{arc_at}
use Rattle.charts.proofs.Columns.{one_more}
use Rattle.charts.proofs.picturing.put_arcs.Goals as goal

pub loop-place-preserved : goal.loop-place-preserved
loop-place-preserved c = one_more (arc_at c.args.ranks c.args.count c.args.cycle.now) c.loop-place.place c.args.out.now.items c.loop-place.out.items c.put_arc_at.new.out.items c.loop-place.invariant c.in_ok-put_arc_at.ensures
