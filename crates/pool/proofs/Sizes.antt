-- The tree below the root has no more nodes than there are, and none is deeper than its path is
-- long.
use Rattle.std.proofs.Common.{◌≡◌, ◌≢◌, ℕ, zero, suc, ◌+◌, ◌<◌, ◌≤◌, ◌==◌, Bool, true, false, List, [], ◌∷◌, ◌++◌, length, set, get_or, Option, Some, None, slice_get, refl, sym, ap, ◌∙◌, subst, arith, inl, inr, if◌then◌else◌}
use Rattle.std.specs.List.{list_all}
use Rattle.std.specs.Option.{option_map}
use Rattle.std.proofs.lemmas.Bool.{cases_Bool, cases_eq, and_from, le-leb, eqb-true, eq-eqb}
use Rattle.std.proofs.lemmas.List.{length-append, length-set}
use Rattle.std.proofs.lemmas.List.Folds.{list_all-append}
use Rattle.pages.proofs.Joined.{slice_get-front}
use Rattle.refutations.specs.BinaryTrees.{Tree, leaf, split, preorder}
use Rattle.refutations.specs.Trees.{branch}
use Rattle.prooflog.specs.Depths.{depths_in}
use Rattle.prooflog.specs.Refutations.{is_depth}
use Rattle.trees.specs.declared.tree.NodeKind.{NodeKind}
use Rattle.trees.specs.declared.tree.NodeKind.TheVariants.{Leaf, Split}
use Rattle.trees.specs.Trees.{TreeNode, leaf_with, path_at, kind_at, IsLeaf, split_at, Grows, one_leaf, one_more, IsShallow, IsBelow}
use Rattle.trees.proofs.Splits.{kind_within, splits_sound}

-- ---- depths

pub shallow_below : (variables : ℕ) (nodes : List TreeNode) (numbers : List ℕ) → Grows variables nodes → IsShallow nodes → (tree : Tree) (node depth : ℕ) → IsBelow nodes numbers tree node → depth ≡ length (path_at nodes node) → list_all is_depth (depths_in depth tree) ≡ true
shallow_below variables nodes numbers grows shallow (leaf number) node depth below e =
    and_from (is_depth depth) true (le-leb depth 64 (omega (arith, e, shallow node))) refl
shallow_below variables nodes numbers grows shallow (split v first second) node depth below e =
    let s = (splits_sound variables nodes grows).1 node v below.0 below.1 below.2 in
    let one = shallow_below variables nodes numbers grows shallow first below.0 (depth + 1) below.3 (omega (arith, e, ap length s.path_for_true)) in
    let two = shallow_below variables nodes numbers grows shallow second below.1 (depth + 1) below.4 (omega (arith, e, ap length s.path_for_false)) in
    and_from (is_depth depth) (list_all is_depth (depths_in (depth + 1) first ++ depths_in (depth + 1) second)) (le-leb depth 64 (omega (arith, e, shallow node)))
    (list_all-append is_depth (depths_in (depth + 1) first) (depths_in (depth + 1) second)
    ∙ and_from (list_all is_depth (depths_in (depth + 1) first)) (list_all is_depth (depths_in (depth + 1) second)) one two)

-- ---- weights: a split weighs 1, and a leaf what it is given

abbrev pub weight : (w : ℕ → ℕ) (nodes : List TreeNode) (numbers : List ℕ) (tree : Tree) (node : ℕ) → IsBelow nodes numbers tree node → ℕ
weight w nodes numbers (leaf number) node below = w node
weight w nodes numbers (split v first second) node below = 1 + weight w nodes numbers first below.0 below.3 + weight w nodes numbers second below.1 below.4

abbrev pub node_weight : NodeKind → ℕ → ℕ
node_weight Leaf given = given
node_weight (Split v if_true if_false) given = 1

-- of all nodes, the first of which has this number
abbrev pub total : (ℕ → ℕ) → ℕ → List TreeNode → ℕ
total w from [] = 0
total w from (node ∷ nodes) = node_weight node.kind (w from) + total w (suc from) nodes

weight_ones : (nodes : List TreeNode) (numbers : List ℕ) (tree : Tree) (node : ℕ) (below : IsBelow nodes numbers tree node) → weight (λ _. 1) nodes numbers tree node below ≡ length (preorder tree)
weight_ones nodes numbers (leaf number) node below = refl
weight_ones nodes numbers (split v first second) node below =
    omega (arith, weight_ones nodes numbers first below.0 below.3, weight_ones nodes numbers second below.1 below.4, length-append (preorder first) (preorder second))

one_each : (k : NodeKind) → node_weight k 1 ≡ 1
one_each Leaf = refl
one_each (Split v if_true if_false) = refl

total_ones : (from : ℕ) (nodes : List TreeNode) → total (λ _. 1) from nodes ≡ length nodes
total_ones from [] = refl
total_ones from (node ∷ nodes) = omega (arith, one_each node.kind, total_ones (suc from) nodes)

total_append : (w : ℕ → ℕ) (from : ℕ) (nodes more : List TreeNode) → total w from (nodes ++ more) ≡ total w from nodes + total w (from + length nodes) more
total_append w from [] more =
    let same : from ≡ from + 0 = omega arith in
    omega (arith, ap (λ (n : ℕ). total w n more) same)
total_append w from (node ∷ nodes) more =
    let same : suc from + length nodes ≡ from + suc (length nodes) = omega arith in
    omega (arith, total_append w (suc from) nodes more, ap (λ (n : ℕ). total w n more) same)

total_same : (w u : ℕ → ℕ) (from : ℕ) (nodes : List TreeNode) → ((k : ℕ) → from ≤ k → w k ≡ u k) → total w from nodes ≡ total u from nodes
total_same w u from [] agree = refl
total_same w u from (node ∷ nodes) agree =
    omega (arith, ap (node_weight node.kind) (agree from (omega arith)), total_same w u (suc from) nodes (λ k later. agree k (omega arith)))

-- one leaf becomes a split
total_set : (w u : ℕ → ℕ) (from : ℕ) (nodes : List TreeNode) (place more v a b : ℕ) (made : TreeNode) → IsLeaf nodes place → made.kind ≡ Split v a b → ((k : ℕ) → k ≢ from + place → w k ≡ u k) → u (from + place) ≡ 1 + more → total w from (set nodes place made) + more ≡ total u from nodes
total_set w u from [] place more v a b made is e other here = absurd (let told : ◌≡◌ {A = Option NodeKind} None (Some Leaf) = is in cc)
total_set w u from (node ∷ nodes) zero more v a b made is e other here =
    let told : ◌≡◌ {A = Option NodeKind} (Some node.kind) (Some Leaf) = is in
    let leaf_kind : node.kind ≡ Leaf = cc in
    let start : from + 0 ≡ from = omega arith in
    omega (
      arith,
      ap (λ (k : NodeKind). node_weight k (w from)) e,
      ap (λ (k : NodeKind). node_weight k (u from)) leaf_kind,
      sym (ap u start) ∙ here,
      total_same w u (suc from) nodes (λ k later. other k (λ same. absurd (omega (arith, same, later)))),
    )
total_set w u from (node ∷ nodes) (suc place) more v a b made is e other here =
    let next : suc from + place ≡ from + suc place = omega arith in
    omega (
      arith,
      ap (node_weight node.kind) (other from (λ same. absurd (omega (arith, same)))),
      total_set w u (suc from) nodes place more v a b made is e (λ k apart. other k (λ same. apart (same ∙ sym next))) (ap u next ∙ here),
    )

-- ---- a split is taken back

set_other : {X : Type 0} (xs : List X) (place k : ℕ) (x : X) → k ≢ place → slice_get (set xs place x) k ≡ slice_get xs k
set_other [] place k x other = refl
set_other (y ∷ xs) zero zero x other = absurd (other refl)
set_other (y ∷ xs) zero (suc k) x other = refl
set_other (y ∷ xs) (suc place) zero x other = refl
set_other (y ∷ xs) (suc place) (suc k) x other = set_other xs place k x (λ e. other (ap suc e))

set_same : {X : Type 0} (xs : List X) (place : ℕ) (x : X) → place < length xs → slice_get (set xs place x) place ≡ Some x
set_same [] place x low = absurd (omega arith)
set_same (y ∷ xs) zero x low = refl
set_same (y ∷ xs) (suc place) x low = set_same xs place x (omega arith)

behind : {X : Type 0} (xs ys : List X) (k : ℕ) → slice_get (xs ++ ys) (length xs + k) ≡ slice_get ys k
behind [] ys k = let same : 0 + k ≡ k = omega arith in ap (slice_get ys) same
behind (x ∷ xs) ys k = let same : suc (length xs) + k ≡ suc (length xs + k) = omega arith in ap (slice_get (x ∷ (xs ++ ys))) same ∙ behind xs ys k

module _ (variables : ℕ) (nodes : List TreeNode) (place v : ℕ) (grows : Grows variables nodes) (is : IsLeaf nodes place) where
  abbrev count : ℕ
  count = length nodes

  abbrev made : TreeNode
  made = record { path = path_at nodes place; kind = Split v count (count + 1) }

  abbrev two : List TreeNode
  two = leaf_with (branch v true (path_at nodes place)) ∷ leaf_with (branch v false (path_at nodes place)) ∷ []

  there : place < count
  there = kind_within nodes place Leaf is

  set_length : length (set nodes place made) ≡ count
  set_length = length-set nodes place made

  front : (k : ℕ) → k < count → slice_get (split_at nodes place v) k ≡ slice_get (set nodes place made) k
  front k low = slice_get-front (set nodes place made) two k (omega (arith, set_length))

  kind_other : (k : ℕ) → k < count → k ≢ place → kind_at (split_at nodes place v) k ≡ kind_at nodes k
  kind_other k low other = ap (option_map (λ (n : TreeNode). n.kind)) (front k low ∙ set_other nodes place k made other)

  kind_here : kind_at (split_at nodes place v) place ≡ Some (Split v count (count + 1))
  kind_here = ap (option_map (λ (n : TreeNode). n.kind)) (front place there ∙ set_same nodes place made there)

  kind_new : (k j : ℕ) → k ≡ count + j → kind_at (split_at nodes place v) k ≡ option_map (λ (n : TreeNode). n.kind) (slice_get two j)
  kind_new k j e =
      let same : k ≡ length (set nodes place made) + j = omega (arith, e, set_length) in
      ap (kind_at (split_at nodes place v)) same ∙ ap (option_map (λ (n : TreeNode). n.kind)) (behind (set nodes place made) two j)

  leaf_true : IsLeaf (split_at nodes place v) count
  leaf_true = kind_new count 0 (omega arith)

  leaf_false : IsLeaf (split_at nodes place v) (count + 1)
  leaf_false = kind_new (count + 1) 1 refl

  module _ (numbers : List ℕ) (w u : ℕ → ℕ) (apart : (k : ℕ) → k ≢ place → w k ≡ u k) (here : u place ≡ 1 + (w count + w (count + 1))) where
    leaf_alone : (tree : Tree) (node : ℕ) (below : IsBelow (split_at nodes place v) numbers tree node) → IsLeaf (split_at nodes place v) node → weight w (split_at nodes place v) numbers tree node below ≡ w node
    leaf_alone (leaf number) node below alone = refl
    leaf_alone (split x first second) node below alone =
        absurd (let told : ◌≡◌ {A = Option NodeKind} (Some Leaf) (Some (Split x below.0 below.1)) = sym alone ∙ below.2 in cc)

    record Before (node weighs : ℕ) : Type 0 where
      pub tree : Tree
      pub below : IsBelow nodes numbers tree node
      pub same : weighs ≡ weight u nodes numbers tree node below

    before_split : (tree : Tree) (node : ℕ) → node < count → (below : IsBelow (split_at nodes place v) numbers tree node) → Before node (weight w (split_at nodes place v) numbers tree node below)
    before_split (leaf number) node low below =
        elim (cases_eq node place) [
          | inl at ↦ absurd (let told : ◌≡◌ {A = Option NodeKind} (Some (Split v count (count + 1))) (Some Leaf) = sym kind_here ∙ sym (ap (kind_at (split_at nodes place v)) at) ∙ below.0 in cc)
          | inr other ↦ record {
            tree = leaf number;
            below = (sym (kind_other node low other) ∙ below.0, below.1);
            same = apart node other;
          }
        ]
    before_split (split x first second) node low below =
        elim (cases_eq node place) [
          | inl at ↦
              let told : ◌≡◌ {A = Option NodeKind} (Some (Split v count (count + 1))) (Some (Split x below.0 below.1)) = sym kind_here ∙ sym (ap (kind_at (split_at nodes place v)) at) ∙ below.2 in
              let one : count ≡ below.0 = cc in
              let other : count + 1 ≡ below.1 = cc in
              let first_weighs = leaf_alone first below.0 below.3 (subst (λ (n : ℕ). IsLeaf (split_at nodes place v) n) one leaf_true) in
              let second_weighs = leaf_alone second below.1 below.4 (subst (λ (n : ℕ). IsLeaf (split_at nodes place v) n) other leaf_false) in
              record {
                tree = leaf (get_or numbers node 0);
                below = (ap (kind_at nodes) at ∙ is, refl);
                same = omega (arith, first_weighs, second_weighs, ap w one, ap w other, here, ap u at);
              }
          | inr other ↦
              let e = sym (kind_other node low other) ∙ below.2 in
              let s = (splits_sound variables nodes grows).1 node x below.0 below.1 e in
              let one = before_split first below.0 (omega (arith, s.adjacent, s.there)) below.3 in
              let two_trees = before_split second below.1 s.there below.4 in
              record {
                tree = split x one.tree two_trees.tree;
                below = (below.0, below.1, e, one.below, two_trees.below);
                same = omega (arith, one.same, two_trees.same);
              }
        ]

    total_before : total w 0 (split_at nodes place v) ≡ total u 0 nodes
    total_before =
        let zeroed : 0 + place ≡ place = omega arith in
        let next : suc count ≡ count + 1 = omega arith in
        let start : 0 + length (set nodes place made) ≡ count = omega (arith, set_length) in
        let sum : w count + (w (suc count) + 0) ≡ w count + w (count + 1) = omega (arith, ap w next) in
        total_append w 0 (set nodes place made) two
        ∙ ap (λ (n : ℕ). total w 0 (set nodes place made) + total w n two) start
        ∙ ap (λ (x : ℕ). total w 0 (set nodes place made) + x) sum
        ∙ total_set w u 0 nodes place (w count + w (count + 1)) v count (count + 1) made is refl (λ k other. apart k (λ same. other (omega (arith, same)))) (ap u zeroed ∙ here)

apart_by : (w : ℕ → ℕ) (count place k : ℕ) → k ≢ place → w k ≡ (if k == place then 1 + (w count + w (count + 1)) else w k)
apart_by w count place k other =
    elim (cases_Bool (k == place)) [
      | inl same ↦ absurd (other (eqb-true k place same))
      | inr differs ↦ sym (ap {B = ℕ} (λ (b : Bool). if b then 1 + (w count + w (count + 1)) else w k) differs)
    ]

here_by : (w : ℕ → ℕ) (count place : ℕ) → (if place == place then 1 + (w count + w (count + 1)) else w place) ≡ 1 + (w count + w (count + 1))
here_by w count place = ap {B = ℕ} (λ (b : Bool). if b then 1 + (w count + w (count + 1)) else w place) (eq-eqb place place refl)

-- a tree weighs no more than all nodes
weighs_no_more : (variables : ℕ) (nodes : List TreeNode) → Grows variables nodes → (w : ℕ → ℕ) (numbers : List ℕ) (tree : Tree) (below : IsBelow nodes numbers tree 0) → weight w nodes numbers tree 0 below ≤ total w 0 nodes
weighs_no_more variables nodes one_leaf w numbers (leaf number) below = omega arith
weighs_no_more variables nodes one_leaf w numbers (split v first second) below =
    absurd (let told : ◌≡◌ {A = Option NodeKind} (Some Leaf) (Some (Split v below.0 below.1)) = below.2 in cc)
weighs_no_more variables nodes (one_more before place v grows is low high) w numbers tree below =
    let count : ℕ = length before in
    let u : ℕ → ℕ = λ k. if k == place then 1 + (w count + w (count + 1)) else w k in
    let apart : (k : ℕ) → k ≢ place → w k ≡ u k = λ k other. apart_by w count place k other in
    let here : u place ≡ 1 + (w count + w (count + 1)) = here_by w count place in
    let there = kind_within before place Leaf is in
    let b = before_split variables before place v grows is numbers w u apart here tree 0 (omega arith) below in
    omega (arith, b.same, weighs_no_more variables before grows u numbers b.tree b.below, total_before variables before place v grows is numbers w u apart here)

pub few_nodes : (variables : ℕ) (nodes : List TreeNode) (numbers : List ℕ) (tree : Tree) → Grows variables nodes → IsBelow nodes numbers tree 0 → length (preorder tree) ≤ length nodes
few_nodes variables nodes numbers tree grows below =
    omega (arith, weight_ones nodes numbers tree 0 below, total_ones 0 nodes, weighs_no_more variables nodes grows (λ _. 1) numbers tree below)
