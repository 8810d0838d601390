use Rattle.std.proofs.Common.{length}
use Rattle.prooflog.specs.parts.Reading.{LinesSoFar}
use Rattle.prooflog.proofs.refutation_reader.read_lines.Given as goal

abbrev pub invariant-loop-line : goal.invariant-loop-line
invariant-loop-line l = LinesSoFar l.bytes l.rest l.number l.lines.items

abbrev pub decreases-loop-line : goal.decreases-loop-line
decreases-loop-line l = length l.rest
