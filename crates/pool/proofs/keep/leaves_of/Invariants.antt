use Rattle.std.proofs.Common.{◌≡◌, ◌≤◌, take, replicate}
use Rattle.pool.specs.Counts.{open_count}
use Rattle.pool.proofs.keep.leaves_of.Given as goal

abbrev pub invariant-loop-node : goal.invariant-loop-node
invariant-loop-node l =
    record {
      so_far : l.leaves ≡ open_count (take l.node l.tree.nodes) (replicate l.node 0);
      few : l.leaves ≤ l.node;
    }
