-- The tree that hangs below a node, and its preorder.
use Rattle.std.proofs.Common.{◌≡◌, ℕ, zero, suc, ◌+◌, ◌-◌, ◌<◌, ◌≤◌, Bool, true, IsTrue, ◌&&◌, leb, nat_lt, List, [], ◌∷◌, ◌++◌, length, Option, Some, None, get_or, refl, ap, subst, sym, ◌∙◌, arith, append_assoc}
use Rattle.std.specs.List.{All}
use Rattle.std.proofs.lemmas.List.Elements.{All-nil, All-cons, All-append, All-same}
use Rattle.std.proofs.lemmas.Bool.{and_from, le-leb}
use Rattle.std.proofs.lemmas.List.{append-nil}
use Rattle.std.proofs.lemmas.List.Folds.{list_all-append}
use Rattle.refutations.specs.BinaryTrees.{Tree, leaf, split, preorder}
use Rattle.refutations.specs.Proofs.{are_trees, is_tree, is_proof_number, number_of, are_numbered}
use Rattle.refutations.specs.declared.tree.Node.{Node}
use Rattle.refutations.specs.declared.tree.Node.TheVariants.{Split as SplitNode, Leaf as LeafNode}
use Rattle.trees.specs.declared.tree.NodeKind.{NodeKind}
use Rattle.trees.specs.declared.tree.NodeKind.TheVariants.{Leaf, Split}
use Rattle.trees.specs.Trees.{TreeNode, kind_at, Grows, IsBelow, AreLeavesNumbered}
use Rattle.trees.specs.Laws.{IsSplitSound}
use Rattle.trees.specs.parts.Preorders.{proof_node, nodes_below, tree_by, tree_to_depth, tree_below}
use Rattle.trees.proofs.Splits.{kind_within, kind_of_node, splits_sound, root_within}

-- what a node is, with its equation
data KindAt (nodes : List TreeNode) (node : ℕ) : Type 0 where
  is_none : kind_at nodes node ≡ None → KindAt nodes node
  is_leaf : kind_at nodes node ≡ Some Leaf → KindAt nodes node
  is_split : (v if_true if_false : ℕ) → kind_at nodes node ≡ Some (Split v if_true if_false) → KindAt nodes node

kind_cases : (nodes : List TreeNode) (node : ℕ) (kind : Option NodeKind) → kind_at nodes node ≡ kind → KindAt nodes node
kind_cases nodes node None e = is_none e
kind_cases nodes node (Some Leaf) e = is_leaf e
kind_cases nodes node (Some (Split v if_true if_false)) e = is_split v if_true if_false e

-- what is left to write where these nodes wait, the last of which comes first
abbrev pub left_of : List TreeNode → List ℕ → List ℕ → List Node
left_of nodes numbers [] = []
left_of nodes numbers (node ∷ waiting) = left_of nodes numbers waiting ++ preorder (tree_below nodes numbers node)

module _ (variables : ℕ) (nodes : List TreeNode) (numbers : List ℕ) (grows : Grows variables nodes) where
  sound : (node v if_true if_false : ℕ) → kind_at nodes node ≡ Some (Split v if_true if_false) → IsSplitSound variables nodes node v if_true if_false
  sound = (splits_sound variables nodes grows).1

  abbrev number_at : ℕ → ℕ
  number_at node = get_or numbers node 0

  none_past : (node : ℕ) → length nodes ≤ node → kind_at nodes node ≡ None
  none_past node past =
      elim (kind_cases nodes node (kind_at nodes node) refl) [
        | is_none e ↦ e
        | is_leaf e ↦ absurd (let low = kind_within nodes node Leaf e in omega arith)
        | is_split v a b e ↦ absurd (let low = kind_within nodes node (Split v a b) e in omega arith)
      ]

  -- one step more
  deeper : (depth node : ℕ) → tree_to_depth (suc depth) nodes numbers node ≡ tree_by (kind_at nodes node) (number_at node) (λ k. tree_to_depth depth nodes numbers k)
  unfolding tree_to_depth
  deeper depth node = refl

  deeper_leaf : (depth node : ℕ) → kind_at nodes node ≡ Some Leaf → tree_to_depth depth nodes numbers node ≡ leaf (number_at node)
  unfolding tree_to_depth
  deeper_leaf zero node e = refl
  deeper_leaf (suc depth) node e = ap (λ (kind : Option NodeKind). tree_by kind (number_at node) (λ k. tree_to_depth depth nodes numbers k)) e

  deeper_none : (depth node : ℕ) → kind_at nodes node ≡ None → tree_to_depth depth nodes numbers node ≡ leaf (number_at node)
  unfolding tree_to_depth
  deeper_none zero node e = refl
  deeper_none (suc depth) node e = ap (λ (kind : Option NodeKind). tree_by kind (number_at node) (λ k. tree_to_depth depth nodes numbers k)) e

  deeper_split : (depth node v if_true if_false : ℕ) → kind_at nodes node ≡ Some (Split v if_true if_false) → tree_to_depth (suc depth) nodes numbers node ≡ split v (tree_to_depth depth nodes numbers if_true) (tree_to_depth depth nodes numbers if_false)
  deeper_split depth node v a b e =
      deeper depth node ∙ ap (λ (kind : Option NodeKind). tree_by kind (number_at node) (λ k. tree_to_depth depth nodes numbers k)) e

  -- depths that suffice give one tree
  same_depths : (one other node : ℕ) → length nodes ≤ node + one → length nodes ≤ node + other → tree_to_depth one nodes numbers node ≡ tree_to_depth other nodes numbers node
  same_depths zero other node here there =
      let none = none_past node (omega arith) in
      deeper_none zero node none ∙ sym (deeper_none other node none)
  same_depths (suc one) zero node here there =
      let none = none_past node (omega arith) in
      deeper_none (suc one) node none ∙ sym (deeper_none zero node none)
  same_depths (suc one) (suc other) node here there =
      elim (kind_cases nodes node (kind_at nodes node) refl) [
        | is_none e ↦ deeper_none (suc one) node e ∙ sym (deeper_none (suc other) node e)
        | is_leaf e ↦ deeper_leaf (suc one) node e ∙ sym (deeper_leaf (suc other) node e)
        | is_split v a b e ↦
            let s = sound node v a b e in
            deeper_split one node v a b e
            ∙ ap (λ (t : Tree). split v t (tree_to_depth one nodes numbers b)) (same_depths one other a (omega (arith, s.later)) (omega (arith, s.later)))
            ∙ ap (split v (tree_to_depth other nodes numbers a)) (same_depths one other b (omega (arith, s.later, s.adjacent)) (omega (arith, s.later, s.adjacent)))
            ∙ sym (deeper_split other node v a b e)
      ]

  below_leaf : (node : ℕ) → kind_at nodes node ≡ Some Leaf → tree_below nodes numbers node ≡ leaf (number_at node)
  below_leaf node e = deeper_leaf (length nodes - node) node e

  below_split : (node v if_true if_false : ℕ) → kind_at nodes node ≡ Some (Split v if_true if_false) → tree_below nodes numbers node ≡ split v (tree_below nodes numbers if_true) (tree_below nodes numbers if_false)
  below_split node v a b e =
      let s = sound node v a b e in
      let low = kind_within nodes node (Split v a b) e in
      let depth : ℕ = length nodes - node - 1 in
      let enough : length nodes - node ≡ suc depth = omega arith in
      ap (λ (d : ℕ). tree_to_depth d nodes numbers node) enough
      ∙ deeper_split depth node v a b e
      ∙ ap (λ (t : Tree). split v t (tree_to_depth depth nodes numbers b)) (same_depths depth (length nodes - a) a (omega (arith, s.later)) (omega arith))
      ∙ ap (split v (tree_below nodes numbers a)) (same_depths depth (length nodes - b) b (omega (arith, s.later, s.adjacent)) (omega arith))

  -- it hangs there
  hangs : (depth node : ℕ) → length nodes ≤ node + depth → node < length nodes → IsBelow nodes numbers (tree_to_depth depth nodes numbers node) node
  hangs zero node enough low = absurd (omega arith)
  hangs (suc depth) node enough low =
      elim (kind_cases nodes node (kind_at nodes node) refl) [
        | is_none e ↦ absurd (let some = kind_of_node nodes node low in cc)
        | is_leaf e ↦ subst (λ (t : Tree). IsBelow nodes numbers t node) (sym (deeper_leaf (suc depth) node e)) (e, refl)
        | is_split v a b e ↦
            let s = sound node v a b e in
            subst (λ (t : Tree). IsBelow nodes numbers t node) (sym (deeper_split depth node v a b e))
            (a, b, e, hangs depth a (omega (arith, s.later)) (omega (arith, s.adjacent, s.there)), hangs depth b (omega (arith, s.later, s.adjacent)) s.there)
      ]

  pub root_hangs : IsBelow nodes numbers (tree_below nodes numbers 0) 0
  root_hangs = hangs (length nodes - 0) 0 (omega arith) (root_within variables nodes grows)

  -- ---- numbers in range

  pub numbered_below : variables ≤ 2147483647 → AreLeavesNumbered nodes numbers → (tree : Tree) (node : ℕ) → IsBelow nodes numbers tree node → are_numbered (preorder tree) ≡ true
  numbered_below fits leaves (leaf number) node below =
      and_from (is_proof_number number) true (subst (λ (n : ℕ). is_proof_number n ≡ true) (sym below.1) (leaves node below.0)) refl
  numbered_below fits leaves (split v first second) node below =
      let s = sound node v below.0 below.1 below.2 in
      let here = and_from (leb 1 v) (leb v 2147483647) (le-leb 1 v s.from_one) (le-leb v 2147483647 (omega (arith, s.within))) in
      let one = numbered_below fits leaves first below.0 below.3 in
      let two = numbered_below fits leaves second below.1 below.4 in
      and_from (is_proof_number v) (are_numbered (preorder first ++ preorder second)) here
      (list_all-append (λ n. is_proof_number (number_of n)) (preorder first) (preorder second) ∙ and_from (are_numbered (preorder first)) (are_numbered (preorder second)) one two)

  -- ---- nodes that wait

  left_push : (waiting : List ℕ) (node : ℕ) → left_of nodes numbers (waiting ++ node ∷ []) ≡ preorder (tree_below nodes numbers node) ++ left_of nodes numbers waiting
  left_push [] node = sym (append-nil (preorder (tree_below nodes numbers node)))
  left_push (first ∷ waiting) node =
      ap (λ (ns : List Node). ns ++ preorder (tree_below nodes numbers first)) (left_push waiting node)
      ∙ append_assoc (preorder (tree_below nodes numbers node)) (left_of nodes numbers waiting) (preorder (tree_below nodes numbers first))

  -- the node that comes first is written, and those below it wait
  pub left_more : (waiting : List ℕ) (node : ℕ) (kind : NodeKind) → kind_at nodes node ≡ Some kind → left_of nodes numbers (waiting ++ node ∷ []) ≡ proof_node kind (number_at node) ∷ left_of nodes numbers (waiting ++ nodes_below kind)
  left_more waiting node Leaf e =
      left_push waiting node
      ∙ ap (λ (t : Tree). preorder t ++ left_of nodes numbers waiting) (below_leaf node e)
      ∙ ap (λ (ns : List ℕ). LeafNode (number_at node) ∷ left_of nodes numbers ns) (sym (append-nil waiting))
  left_more waiting node (Split v a b) e =
      let one = preorder (tree_below nodes numbers a) in
      let two = preorder (tree_below nodes numbers b) in
      let further : left_of nodes numbers (waiting ++ b ∷ a ∷ []) ≡ one ++ (two ++ left_of nodes numbers waiting) =
      ap (left_of nodes numbers) (sym (append_assoc waiting (b ∷ []) (a ∷ [])))
      ∙ left_push (waiting ++ b ∷ []) a
      ∙ ap (λ (ns : List Node). one ++ ns) (left_push waiting b)
      in
      left_push waiting node
      ∙ ap (λ (t : Tree). preorder t ++ left_of nodes numbers waiting) (below_split node v a b e)
      ∙ ap (λ (ns : List Node). SplitNode v ∷ ns) (append_assoc one two (left_of nodes numbers waiting) ∙ sym further)

  -- what is written and what is left make up the same, where one node more is written
  pub one_written : (all done more : List Node) (waiting front after : List ℕ) (node : ℕ) (kind : NodeKind) (made : Node) → done ++ left_of nodes numbers waiting ≡ all → waiting ≡ front ++ node ∷ [] → kind_at nodes node ≡ Some kind → more ≡ done ++ made ∷ [] → made ≡ proof_node kind (number_at node) → after ≡ front ++ nodes_below kind → more ++ left_of nodes numbers after ≡ all
  one_written all done more waiting front after node kind made whole cut is one_more is_written then_left =
      let written : List Node = proof_node kind (number_at node) ∷ [] in
      ap (λ (ns : List Node). ns ++ left_of nodes numbers after) one_more
      ∙ ap (λ (n : Node). (done ++ n ∷ []) ++ left_of nodes numbers after) is_written
      ∙ append_assoc done written (left_of nodes numbers after)
      ∙ ap (λ (ns : List ℕ). done ++ (written ++ left_of nodes numbers ns)) then_left
      ∙ ap (λ (ns : List Node). done ++ ns) (sym (left_more front node kind is))
      ∙ ap (λ (ns : List ℕ). done ++ left_of nodes numbers ns) (sym cut)
      ∙ whole

  -- and less is left
  pub less_left : (waiting front after : List ℕ) (node : ℕ) (kind : NodeKind) → waiting ≡ front ++ node ∷ [] → kind_at nodes node ≡ Some kind → after ≡ front ++ nodes_below kind → length (left_of nodes numbers after) < length (left_of nodes numbers waiting)
  less_left waiting front after node kind cut is then_left =
      let before = ap (λ (ns : List ℕ). length (left_of nodes numbers ns)) cut ∙ ap length (left_more front node kind is) in
      omega (arith, before, ap (λ (ns : List ℕ). length (left_of nodes numbers ns)) then_left)

  below_within : (node : ℕ) (kind : NodeKind) → kind_at nodes node ≡ Some kind → All (λ n. n < length nodes) (nodes_below kind)
  below_within node Leaf is = All-nil (λ n. n < length nodes)
  below_within node (Split v a b) is =
      let s = sound node v a b is in
      All-cons (λ n. n < length nodes) b (a ∷ []) s.there (All-cons (λ n. n < length nodes) a [] (omega (arith, s.adjacent, s.there)) (All-nil (λ n. n < length nodes)))

  -- all that waits is a node
  pub within_more : (front after : List ℕ) (node : ℕ) (kind : NodeKind) → All (λ n. n < length nodes) front → kind_at nodes node ≡ Some kind → after ≡ front ++ nodes_below kind → All (λ n. n < length nodes) after
  within_more front after node kind within is then_left =
      All-same (λ n. n < length nodes) after (front ++ nodes_below kind) then_left (All-append (λ n. n < length nodes) front (nodes_below kind) within (below_within node kind is))
