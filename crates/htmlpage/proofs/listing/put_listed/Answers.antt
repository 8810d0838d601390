use Rattle.std.proofs.Common.{map}
use Rattle.charts.proofs.Columns.{one_more}
use Rattle.htmlpage.specs.Page.{listed_at}
use Rattle.htmlpage.proofs.listing.put_listed.Goals as goal

pub loop-place-preserved : goal.loop-place-preserved
loop-place-preserved c = one_more (listed_at c.args.marks.now (map (λ line. line.now) c.args.lines.now)) c.loop-place.place c.args.out.now.items c.loop-place.out.items c.put_listed_at.new.out.items c.loop-place.invariant c.in_ok-put_listed_at.ensures
