use Rattle.std.proofs.Common.{arith}
use Rattle.pool.proofs.Answering.{answered_more}
use Rattle.pool.proofs.events.replies_to.Goals as goal

pub loop-event-preserved : goal.loop-event-preserved
loop-event-preserved c =
    let here = c.in_ok-answer.ensures in
    answered_more c.args.pool.now c.args.events.now c.loop-event.event-index c.event-item.result c.loop-event.pool c.answer.new.pool
    c.loop-event.replies.items c.push.new.self.items c.in_ok-answer.field-0 (omega arith) c.event-item.is c.loop-event.invariant here.reply here.pool
    c.in_ok-push.ensures.items
