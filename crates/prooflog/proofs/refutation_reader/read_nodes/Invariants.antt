use Rattle.std.proofs.Common.{length}
use Rattle.prooflog.proofs.Nodes.{NodesSoFar}
use Rattle.prooflog.proofs.refutation_reader.read_nodes.Given as goal

abbrev pub invariant-loop-depth : goal.invariant-loop-depth
invariant-loop-depth l = NodesSoFar l.bytes l.rest l.first l.number l.nodes.items l.waiting.items

abbrev pub decreases-loop-depth : goal.decreases-loop-depth
decreases-loop-depth l = length l.rest
