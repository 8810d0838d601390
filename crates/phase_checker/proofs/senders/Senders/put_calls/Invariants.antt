use Rattle.std.proofs.Common.{take}
use Rattle.std.specs.List.{list_any}
use Rattle.phase_checker.specs.parts.Early.{is_sent, IsRaisedToPlace}
use Rattle.phase_checker.proofs.senders.Senders.put_calls.Given as goal

abbrev pub invariant-loop-call : goal.invariant-loop-call
invariant-loop-call l = IsRaisedToPlace (λ key. list_any (is_sent key) (take l.call-index l.calls)) l.place l.fn.self l.self
