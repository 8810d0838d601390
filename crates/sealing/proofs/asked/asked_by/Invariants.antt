use Rattle.std.specs.HashSet.{contains}
use Rattle.sealing.specs.parts.Sides.{same_wanted, AreAsked}
use Rattle.sealing.proofs.asked.asked_by.Given as goal

abbrev pub invariant-loop-call : goal.invariant-loop-call
invariant-loop-call l = AreAsked l.calls l.call-index (contains same_wanted l.asked)
