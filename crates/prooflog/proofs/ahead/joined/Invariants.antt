use Rattle.prooflog.specs.parts.Reading.{HaveReached}
use Rattle.prooflog.proofs.ahead.joined.Given as goal

abbrev pub invariant-loop-part : goal.invariant-loop-part
invariant-loop-part l = HaveReached l.bytes l.used l.lines.items
