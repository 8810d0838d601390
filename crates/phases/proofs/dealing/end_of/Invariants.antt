use Rattle.std.proofs.Common.{◌-◌, ◌+◌}
use Rattle.semantics.specs.Machine.{first_call}
use Rattle.phases.proofs.Dealt.{IsOnTheWay}
use Rattle.phases.proofs.dealing.end_of.Given as goal

abbrev pub invariant-loop-end : goal.invariant-loop-end
invariant-loop-end l = IsOnTheWay l.program l.rank l.end

abbrev pub decreases-loop-end : goal.decreases-loop-end
decreases-loop-end l = first_call l.program (l.rank + 1) - l.end
