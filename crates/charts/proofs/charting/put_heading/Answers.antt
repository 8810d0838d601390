use Rattle.std.specs.Prelude.{codes}
use Rattle.charts.specs.Chart.{heading_cell}
use Rattle.charts.proofs.Columns.{all_cells, one_more}
use Rattle.charts.proofs.charting.put_heading.Goals as goal

pub loop-rank-preserved : goal.loop-rank-preserved
loop-rank-preserved c = one_more (heading_cell c.args.ranks) c.loop-rank.rank c.args.out.now.items c.loop-rank.out.items c.put_heading_cell.new.out.items c.loop-rank.invariant c.in_ok-put_heading_cell.ensures

pub returns : goal.returns
returns c = all_cells c.end_line.result (heading_cell c.args.ranks) c.args.ranks c.loop-rank.rank c.args.out.now.items c.loop-rank.out.items c.end_line.new.out.items (codes "\n") c.loop-rank.auto.rank-end c.loop-rank-test.false c.loop-rank.invariant c.end_line.ensures
