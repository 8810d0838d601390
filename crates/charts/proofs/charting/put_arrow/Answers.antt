use Rattle.charts.specs.Chart.{find_cell}
use Rattle.charts.proofs.Columns.{one_more}
use Rattle.charts.proofs.charting.put_arrow.Goals as goal

pub loop-rank-preserved : goal.loop-rank-preserved
loop-rank-preserved c = one_more (find_cell c.args.ranks c.args.from c.args.to c.args.stroke) c.loop-rank.rank c.args.out.now.items c.loop-rank.out.items c.put_find_cell.new.out.items c.loop-rank.invariant c.in_ok-put_find_cell.ensures
