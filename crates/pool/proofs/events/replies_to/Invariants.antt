use Rattle.std.proofs.Common.{take}
use Rattle.pool.specs.Laws.{AreAnswered}
use Rattle.pool.proofs.events.replies_to.Given as goal

abbrev pub invariant-loop-event : goal.invariant-loop-event
invariant-loop-event l = AreAnswered l.initial.pool (take l.event-index l.events) l.pool l.replies.items
