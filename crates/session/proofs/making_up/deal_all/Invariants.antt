use Rattle.std.proofs.Common.{take}
use Rattle.session.proofs.MadeUp.{IsDealtTo}
use Rattle.session.proofs.making_up.deal_all.Given as goal

abbrev pub invariant-loop-number : goal.invariant-loop-number
invariant-loop-number l = IsDealtTo l.programs l.program l.next.items (take l.number-index l.order)
