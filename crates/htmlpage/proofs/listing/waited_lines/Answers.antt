use Rattle.std.proofs.Common.{[]}
use Rattle.charts.proofs.Columns.{one_more}
use Rattle.htmlpage.specs.Page.{waited_line}
use Rattle.htmlpage.proofs.listing.waited_lines.Goals as goal

pub loop-rank-preserved : goal.loop-rank-preserved
loop-rank-preserved c = one_more (waited_line c.args.program.now c.args.end.now c.args.calls.now) c.loop-rank.rank [] c.loop-rank.lines.items c.push_waited_line.new.lines.items c.loop-rank.invariant c.in_ok-push_waited_line.ensures
