use Rattle.std.proofs.Common.{◌≡◌, ℕ, ◌+◌, ◌<◌, Bool, List, ◌∷◌, length, get_or, drop, sym, ap, ◌∙◌}
use Rattle.std.specs.Global.{Vec}
use Rattle.std.proofs.lemmas.List.{at_drop_more}
use Rattle.refutations.specs.declared.tree.Node.{Node}
use Rattle.refutations.specs.declared.tree.Node.TheVariants.{Leaf, Split}
use Rattle.trimming.specs.parts.Marks.{mark, mark_leaves}
use Rattle.trimming.proofs.marks.mark_leaves.Goals.{in-Leaf, in_default}
use Rattle.trimming.proofs.marks.mark_leaves.Goals as goal

-- past a leaf
leaf_more : (clauses below : ℕ) (old new : List Bool) (nodes : List Node) (i : ℕ) (d : Node) (number : ℕ) (whole : List Bool) → i < length nodes → get_or nodes i d ≡ Leaf number → new ≡ mark clauses below old number → mark_leaves clauses below old (drop i nodes) ≡ whole → mark_leaves clauses below new (drop (i + 1) nodes) ≡ whole
leaf_more clauses below old new nodes i d number whole within is grows so_far =
    ap (λ (m : List Bool). mark_leaves clauses below m (drop (i + 1) nodes)) grows
    ∙ sym (ap (λ (n : Node). mark_leaves clauses below old (n ∷ drop (i + 1) nodes)) is)
    ∙ sym (at_drop_more (mark_leaves clauses below old) nodes i d within) ∙ so_far

-- past another node
split_more : (clauses below : ℕ) (old new : List Bool) (nodes : List Node) (i : ℕ) (d : Node) (variable : ℕ) (whole : List Bool) → i < length nodes → get_or nodes i d ≡ Split variable → new ≡ old → mark_leaves clauses below old (drop i nodes) ≡ whole → mark_leaves clauses below new (drop (i + 1) nodes) ≡ whole
split_more clauses below old new nodes i d variable whole within is same so_far =
    ap (λ (m : List Bool). mark_leaves clauses below m (drop (i + 1) nodes)) same
    ∙ sym (ap (λ (n : Node). mark_leaves clauses below old (n ∷ drop (i + 1) nodes)) is)
    ∙ sym (at_drop_more (mark_leaves clauses below old) nodes i d within) ∙ so_far

pub loop-node-preserved : goal.loop-node-preserved
loop-node-preserved c =
    elim c.match-node.branch [
      | in-Leaf w ↦
          leaf_more c.args.clauses c.args.below c.loop-node.marks.items c.match-node.marks.items c.args.nodes.now c.loop-node.node-index (Split 0) w.in-Leaf.number
          (mark_leaves c.args.clauses c.args.below c.args.marks.now.items c.args.nodes.now) c.loop-node-test.true w.in-Leaf.is (ap (λ (v : Vec Bool). v.items) w.marks-is ∙ w.mark.ensures) c.loop-node.invariant
      | in_default w ↦
          split_more c.args.clauses c.args.below c.loop-node.marks.items c.match-node.marks.items c.args.nodes.now c.loop-node.node-index (Split 0) w.in_default.field-0
          (mark_leaves c.args.clauses c.args.below c.args.marks.now.items c.args.nodes.now) c.loop-node-test.true w.in_default.is (ap (λ (v : Vec Bool). v.items) w.marks-is) c.loop-node.invariant
    ]
