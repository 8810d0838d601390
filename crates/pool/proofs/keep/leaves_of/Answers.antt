use Rattle.std.proofs.Common.{arith}
use Rattle.pool.proofs.OpenLeaves.{count_leaf, count_inner}
use Rattle.pool.proofs.keep.leaves_of.Goals as goal
use Rattle.pool.proofs.keep.leaves_of.Goals.{then-is_leaf, else-is_leaf}

pub loop-node-preserved : goal.loop-node-preserved
loop-node-preserved c =
    let nodes = c.args.tree.now.nodes in
    let i = c.loop-node.node in
    elim c.if-is_leaf.branch [
      | then-is_leaf w ↦ record {
        so_far = omega (arith, w.leaves-is, c.loop-node.invariant.so_far, count_leaf nodes i (omega arith) (c.is_leaf.ensures.same.0 w.if-is_leaf.true));
        few = omega (arith, w.leaves-is, c.loop-node.invariant.few);
      }
      | else-is_leaf w ↦ record {
        so_far = omega (arith, w.leaves-is, c.loop-node.invariant.so_far, count_inner nodes i (omega arith) (λ is. let told = c.is_leaf.ensures.same.1 is in let not_told = w.if-is_leaf.false in cc));
        few = omega (arith, w.leaves-is, c.loop-node.invariant.few);
      }
    ]
