use Rattle.std.proofs.Common.{◌≡◌, drop}
use Rattle.trimming.specs.parts.Marks.{mark_leaves}
use Rattle.trimming.proofs.marks.mark_leaves.Given as goal

abbrev pub invariant-loop-node : goal.invariant-loop-node
invariant-loop-node l = mark_leaves l.clauses l.below l.marks.items (drop l.node-index l.nodes) ≡ mark_leaves l.clauses l.below l.fn.marks.items l.nodes
