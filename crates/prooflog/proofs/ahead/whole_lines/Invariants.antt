use Rattle.std.proofs.Common.{length}
use Rattle.prooflog.proofs.Parts.{WholeSoFar}
use Rattle.prooflog.proofs.ahead.whole_lines.Given as goal

abbrev pub invariant-loop-line : goal.invariant-loop-line
invariant-loop-line l = WholeSoFar l.bytes l.rest l.lines.items

abbrev pub decreases-loop-line : goal.decreases-loop-line
decreases-loop-line l = length l.rest
