use Rattle.phases.proofs.Dealt.{HasMovedOn}
use Rattle.phases.proofs.dealing.move_on.Given as goal

abbrev pub invariant-loop-place : goal.invariant-loop-place
invariant-loop-place l = HasMovedOn l.program l.calls l.fn.next l.next l.place
