use Rattle.std.proofs.Common.{◌≡◌, ◌++◌, drop, map}
use Rattle.trimming.specs.Needed.{renumber, renumbered_node}
use Rattle.trimming.proofs.renumbering.Renumbering.nodes.Given as goal

abbrev pub invariant-loop-node : goal.invariant-loop-node
invariant-loop-node l =
    l.made.items ++ map (renumbered_node (renumber l.self.clauses l.self.flags)) (drop l.node-index l.nodes) ≡ map (renumbered_node (renumber l.self.clauses l.self.flags)) l.nodes
