use Rattle.std.proofs.Common.{List, refl, subst, sym}
use Rattle.std.proofs.lemmas.Bool.{iff_false}
use Rattle.trees.specs.Trees.{TreeNode, IsGrownTree}
use Rattle.trees.proofs.Grown.{state_grown_after}
use Rattle.trees.proofs.tree.Tree.split_leaf.Goals as goal
use Rattle.trees.proofs.tree.Tree.split_leaf.Goals.{in-Ok, in-Err}

pub invariant_of-self : goal.invariant_of-self
invariant_of-self c =
    elim c.match-split_node.branch [
      | in-Ok w ↦
          state_grown_after c.args.self.now c.self.inside.variables c.self.inside.nodes.items c.split_node.new.nodes.items c.args.leaf c.args.variable c.self.view_is c.self.invariant c.requires.leaf c.requires.from_one c.requires.within
          (iff_false c.if-has_no_room.ensures refl) w.in-Ok.ensures.ok
      | in-Err w ↦
          subst (λ (ns : List TreeNode). IsGrownTree (record { variables = c.self.inside.variables; nodes = ns })) (sym w.in-Err.ensures.err) c.self.invariant
    ]
