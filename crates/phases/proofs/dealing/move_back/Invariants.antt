use Rattle.std.proofs.Common.{take}
use Rattle.phases.specs.parts.Moves.{IsMovedOn}
use Rattle.phases.proofs.dealing.move_back.Given as goal

abbrev pub invariant-loop-call : goal.invariant-loop-call
invariant-loop-call l = IsMovedOn (take l.call-index l.calls) l.next l.fn.next
