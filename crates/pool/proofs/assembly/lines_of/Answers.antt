use Rattle.std.proofs.Common.{sym}
use Rattle.pool.proofs.Assembling.{one_more_copied}
use Rattle.pool.proofs.assembly.lines_of.Goals as goal

pub loop-place-preserved : goal.loop-place-preserved
loop-place-preserved c =
    one_more_copied c.args.log.now c.loop-place.lines.items c.push.new.self.items c.loop-place.place c.in-Some.line.now c.in_ok-copy.field-0 (sym c.in-Some.ensures) c.in_ok-copy.ensures c.loop-place.invariant c.in_ok-push.ensures.items
