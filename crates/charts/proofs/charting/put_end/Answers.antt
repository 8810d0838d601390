use Rattle.std.proofs.Common.{ℕ, ◌≤◌, subst}
use Rattle.std.specs.Prelude.{codes}
use Rattle.charts.specs.Chart.{end_cell}
use Rattle.charts.proofs.Columns.{all_cells, one_more}
use Rattle.charts.proofs.charting.put_end.Goals as goal

pub loop-rank-preserved : goal.loop-rank-preserved
loop-rank-preserved c = one_more (end_cell c.args.program.now c.args.end.now) c.loop-rank.rank c.args.out.now.items c.loop-rank.out.items c.put_end_cell.new.out.items c.loop-rank.invariant c.in_ok-put_end_cell.ensures

pub returns : goal.returns
returns c = all_cells c.end_line.result (end_cell c.args.program.now c.args.end.now) c.args.program.now.ranks c.loop-rank.rank c.args.out.now.items c.loop-rank.out.items c.end_line.new.out.items (codes "\n") (subst (λ (n : ℕ). c.loop-rank.rank ≤ n) c.ranks-rank-end.ensures.value c.loop-rank.auto.rank-end) (subst (λ (n : ℕ). n ≤ c.loop-rank.rank) c.ranks-rank-end.ensures.value c.loop-rank-test.false) c.loop-rank.invariant c.end_line.ensures
