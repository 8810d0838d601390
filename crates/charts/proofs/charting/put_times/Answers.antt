use Rattle.charts.proofs.Columns.{once_more}
use Rattle.charts.proofs.charting.put_times.Goals as goal

pub loop-preserved : goal.loop-preserved
loop-preserved c = once_more c.loop.counter c.args.fill c.args.out.now.items c.loop.out.items c.push.new.self.items c.loop.invariant c.in_ok-push.ensures.items
