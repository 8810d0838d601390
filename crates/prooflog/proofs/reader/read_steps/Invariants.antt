use Rattle.std.proofs.Common.{length}
use Rattle.prooflog.proofs.Schedules.{SoFar}
use Rattle.prooflog.proofs.reader.read_steps.Given as goal

abbrev pub invariant-loop-line : goal.invariant-loop-line
invariant-loop-line l = SoFar l.bytes l.rest l.number l.steps.items

abbrev pub decreases-loop-line : goal.decreases-loop-line
decreases-loop-line l = length l.rest
