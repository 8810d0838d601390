use Rattle.waits.specs.parts.Senders.{AreSendersBelow}
use Rattle.waits.proofs.senders.senders_of.Given as goal

abbrev pub invariant-loop-place : goal.invariant-loop-place
invariant-loop-place l = AreSendersBelow l.program l.state l.place l.senders.items
