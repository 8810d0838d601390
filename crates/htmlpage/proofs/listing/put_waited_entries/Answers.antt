use Rattle.charts.proofs.Columns.{one_more}
use Rattle.htmlpage.specs.Page.{waited_entry}
use Rattle.htmlpage.proofs.listing.put_waited_entries.Goals as goal

pub loop-rank-preserved : goal.loop-rank-preserved
loop-rank-preserved c = one_more (waited_entry c.args.program.now c.args.end.now c.args.calls.now) c.loop-rank.rank c.args.out.now.items c.loop-rank.out.items c.put_waited_entry.new.out.items c.loop-rank.invariant c.in_ok-put_waited_entry.ensures
