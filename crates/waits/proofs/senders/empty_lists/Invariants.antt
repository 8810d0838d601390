use Rattle.waits.specs.parts.Senders.{AreEmpty}
use Rattle.waits.proofs.senders.empty_lists.Given as goal

abbrev pub invariant-loop-rank : goal.invariant-loop-rank
invariant-loop-rank l = AreEmpty l._rank l.lists.items
