use Rattle.std.proofs.Common.{slice_index}
use Rattle.charts.specs.Picture.{rank_row}
use Rattle.charts.proofs.Columns.{one_more}
use Rattle.charts.proofs.picturing.put_rows.Goals as goal

pub loop-rank-preserved : goal.loop-rank-preserved
loop-rank-preserved c = one_more (rank_row c.args.program.now c.args.end.now c.args.calls.now c.args.placed.now.count (slice_index c.args.placed.now.issues.items) c.args.cycle.now) c.loop-rank.rank c.args.out.now.items c.loop-rank.out.items c.put_row.new.out.items c.loop-rank.invariant c.in_ok-put_row.ensures
