use Rattle.narrowing.specs.Ways.{AreOthersBelow}
use Rattle.narrowing.proofs.ways.other_messages.Given as goal

abbrev pub invariant-loop-send : goal.invariant-loop-send
invariant-loop-send l = AreOthersBelow l.program l.call l.taken l.send l.others.items
