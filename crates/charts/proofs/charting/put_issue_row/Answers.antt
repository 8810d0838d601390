use Rattle.std.specs.Prelude.{codes}
use Rattle.charts.specs.Chart.{issue_cell}
use Rattle.charts.proofs.Columns.{all_cells, one_more}
use Rattle.charts.proofs.charting.put_issue_row.Goals as goal

pub loop-rank-preserved : goal.loop-rank-preserved
loop-rank-preserved c = one_more (issue_cell c.args.ranks c.args.owner c.args.mark.now) c.loop-rank.rank c.args.out.now.items c.loop-rank.out.items c.put_issue_cell.new.out.items c.loop-rank.invariant c.in_ok-put_issue_cell.ensures

pub returns : goal.returns
returns c = all_cells c.end_line.result (issue_cell c.args.ranks c.args.owner c.args.mark.now) c.args.ranks c.loop-rank.rank c.args.out.now.items c.loop-rank.out.items c.end_line.new.out.items (codes "\n") c.loop-rank.auto.rank-end c.loop-rank-test.false c.loop-rank.invariant c.end_line.ensures
