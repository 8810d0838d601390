-- What a split of a leaf leaves, and what holds of every tree that grows.
use Rattle.std.proofs.Common.{◌≡◌, ◌≢◌, ℕ, ◌+◌, ◌-◌, ◌<◌, ◌≤◌, true, false, not, ◌&&◌, leb, List, [], ◌∷◌, length, Option, Some, get_or, set, refl, ap, subst, sym, ◌∙◌, arith, inl, inr}
use Rattle.std.specs.Option.{option_map}
use Rattle.std.specs.List.{list_all}
use Rattle.std.proofs.lemmas.Bool.{cases_Bool, cases_eq, cases_lt, and_parts, and_from, le-leb, both_ways, not-true}
use Rattle.std.proofs.lemmas.List.{length-set, length-append, get_or-set_same, get_or-set_other, get_or_append_left, get_or-append_right, get_or_past}
use Rattle.std.proofs.lemmas.Option.{slice_get-get_or, slice_get_past}
use Rattle.clauses.specs.Clauses.{Literal, TruthAssignment, makes_true}
use Rattle.refutations.specs.BinaryTrees.{Tree, leaf, split}
use Rattle.refutations.specs.Trees.{branch, IsRefuted, Refutes}
use Rattle.trees.specs.declared.tree.NodeKind.{NodeKind}
use Rattle.trees.specs.declared.tree.NodeKind.TheVariants.{Leaf, Split}
use Rattle.trees.specs.Trees.{TreeNode, leaf_with, path_at, kind_at, IsLeaf, split_at, Grows, one_leaf, one_more, IsShallow, IsBelow}
use Rattle.trees.specs.Laws.{IsReachedLeaf, OneLeafForEachAssignment, AreLeavesRefuted, ClosedLeavesRefute, IsSplitSound, SplitsAreSound, SplitsChangeOneLeaf, is_path_within, PathsAreWithin}

-- the node at a place, where there is one
abbrev pub node_at : List TreeNode → ℕ → TreeNode
node_at nodes k = get_or nodes k (leaf_with [])

-- ---- kinds

pub kind_of_node : (nodes : List TreeNode) (k : ℕ) → k < length nodes → kind_at nodes k ≡ Some (node_at nodes k).kind
kind_of_node nodes k there = ap (option_map (λ (n : TreeNode). n.kind)) (slice_get-get_or nodes k (leaf_with []) there)

pub kind_within : (nodes : List TreeNode) (k : ℕ) (kind : NodeKind) → kind_at nodes k ≡ Some kind → k < length nodes
kind_within nodes k kind e =
    elim (cases_lt k (length nodes)) [
      | inl there ↦ there
      | inr past ↦ absurd (let none = ap (option_map (λ (n : TreeNode). n.kind)) (slice_get_past nodes k past) in cc)
    ]

-- ---- one split

module _ (nodes : List TreeNode) (place v : ℕ) (there : place < length nodes) where
  abbrev path : List Literal
  path = path_at nodes place

  abbrev count : ℕ
  count = length nodes

  abbrev split_node : TreeNode
  split_node = record { path = path; kind = Split v count (count + 1) }

  abbrev two : List TreeNode
  two = leaf_with (branch v true path) ∷ leaf_with (branch v false path) ∷ []

  abbrev after : List TreeNode
  after = split_at nodes place v

  set_length : length (set nodes place split_node) ≡ count
  set_length = length-set nodes place split_node

  pub length_after : length after ≡ count + 2
  length_after = omega (arith, length-append (set nodes place split_node) two, set_length)

  other_after : (k : ℕ) → k < count → k ≢ place → node_at after k ≡ node_at nodes k
  other_after k low other =
      get_or_append_left (set nodes place split_node) two (leaf_with []) k (omega (arith, set_length))
      ∙ get_or-set_other nodes place k split_node (leaf_with []) other

  here_after : node_at after place ≡ split_node
  here_after =
      get_or_append_left (set nodes place split_node) two (leaf_with []) place (omega (arith, set_length))
      ∙ get_or-set_same nodes place split_node (leaf_with []) there

  true_after : node_at after count ≡ leaf_with (branch v true path)
  true_after =
      let first : count - count ≡ 0 = omega arith in
      get_or-append_right (set nodes place split_node) two count count (leaf_with []) set_length (omega arith)
      ∙ ap (λ (k : ℕ). get_or two k (leaf_with [])) first

  false_after : node_at after (count + 1) ≡ leaf_with (branch v false path)
  false_after =
      let second : (count + 1) - count ≡ 1 = omega arith in
      get_or-append_right (set nodes place split_node) two count (count + 1) (leaf_with []) set_length (omega arith)
      ∙ ap (λ (k : ℕ). get_or two k (leaf_with [])) second

  -- where a node stands after the split
  data Stands (k : ℕ) : Type 0 where
    is_split : k ≡ place → Stands k
    is_other : k < count → k ≢ place → Stands k
    is_true : k ≡ count → Stands k
    is_false : k ≡ count + 1 → Stands k

  stands : (k : ℕ) → k < length after → Stands k
  stands k low =
      elim (cases_lt k count) [
        | inl before ↦ elim (cases_eq k place) [ inl here ↦ is_split here | inr other ↦ is_other before other ]
        | inr from ↦
            elim (cases_eq k count) [
              | inl first ↦ is_true first
              | inr later ↦ is_false (omega (arith, length_after))
            ]
      ]

  path_kept : (k : ℕ) → k < count → path_at after k ≡ path_at nodes k
  path_kept k low =
      elim (cases_eq k place) [
        | inl here ↦ ap (path_at after) here ∙ ap (λ (n : TreeNode). n.path) here_after ∙ sym (ap (path_at nodes) here)
        | inr other ↦ ap (λ (n : TreeNode). n.path) (other_after k low other)
      ]

  path_for_true : path_at after count ≡ branch v true path
  path_for_true = ap (λ (n : TreeNode). n.path) true_after

  path_for_false : path_at after (count + 1) ≡ branch v false path
  path_for_false = ap (λ (n : TreeNode). n.path) false_after

  kind_kept : (k : ℕ) → k < count → k ≢ place → kind_at after k ≡ kind_at nodes k
  kind_kept k low other =
      kind_of_node after k (omega (arith, length_after)) ∙ ap (λ (n : TreeNode). Some n.kind) (other_after k low other) ∙ sym (kind_of_node nodes k low)

  kind_here : kind_at after place ≡ Some (Split v count (count + 1))
  kind_here = kind_of_node after place (omega (arith, length_after)) ∙ ap (λ (n : TreeNode). Some n.kind) here_after

  leaf_for_true : IsLeaf after count
  leaf_for_true = kind_of_node after count (omega (arith, length_after)) ∙ ap (λ (n : TreeNode). Some n.kind) true_after

  leaf_for_false : IsLeaf after (count + 1)
  leaf_for_false = kind_of_node after (count + 1) (omega (arith, length_after)) ∙ ap (λ (n : TreeNode). Some n.kind) false_after

  not_leaf_here : IsLeaf after place → ⊥
  not_leaf_here is = let e = kind_here in cc

  -- ---- which leaf an assignment reaches

  module _ (a : TruthAssignment) where
    reached_kept : (k : ℕ) → k ≢ place → IsReachedLeaf nodes a k → IsReachedLeaf after a k
    reached_kept k other reached =
        let low = kind_within nodes k Leaf reached.is_leaf in
        record {
          is_leaf = kind_kept k low other ∙ reached.is_leaf;
          all_true = subst (λ (ls : List Literal). list_all (makes_true a) ls ≡ true) (sym (path_kept k low)) reached.all_true;
        }

    reached_true : a v ≡ true → IsReachedLeaf nodes a place → IsReachedLeaf after a count
    reached_true holds_here reached =
        record {
          is_leaf = leaf_for_true;
          all_true = subst (λ (ls : List Literal). list_all (makes_true a) ls ≡ true) (sym path_for_true) (and_from (a v) (list_all (makes_true a) path) holds_here reached.all_true);
        }

    reached_false : a v ≡ false → IsReachedLeaf nodes a place → IsReachedLeaf after a (count + 1)
    reached_false fails_here reached =
        record {
          is_leaf = leaf_for_false;
          all_true = subst (λ (ls : List Literal). list_all (makes_true a) ls ≡ true) (sym path_for_false) (and_from (not (a v)) (list_all (makes_true a) path) (ap not fails_here) reached.all_true);
        }

    -- the leaf that is reached after the split tells the one before
    record Before (k : ℕ) : Type 0 where
      pub from : ℕ
      pub reached : IsReachedLeaf nodes a from
      pub same : from ≢ place → k ≡ from
      pub when_true : from ≡ place → a v ≡ true → k ≡ count
      pub when_false : from ≡ place → a v ≡ false → k ≡ count + 1

    reached_before : IsLeaf nodes place → (k : ℕ) → IsReachedLeaf after a k → Before k
    reached_before is k reached =
        elim (stands k (kind_within after k Leaf reached.is_leaf)) [
          | is_split here ↦ absurd (not_leaf_here (subst (λ (n : ℕ). IsLeaf after n) here reached.is_leaf))
          | is_other low other ↦
              record {
                from = k;
                reached = record {
                  is_leaf = sym (kind_kept k low other) ∙ reached.is_leaf;
                  all_true = subst (λ (ls : List Literal). list_all (makes_true a) ls ≡ true) (path_kept k low) reached.all_true;
                };
                same = λ _. refl;
                when_true = λ here _. absurd (other here);
                when_false = λ here _. absurd (other here);
              }
          | is_true first ↦
              let all : list_all (makes_true a) (branch v true path) ≡ true = subst (λ (ls : List Literal). list_all (makes_true a) ls ≡ true) (ap (path_at after) first ∙ path_for_true) reached.all_true in
              let parts = and_parts (a v) (list_all (makes_true a) path) all in
              record {
                from = place;
                reached = record { is_leaf = is; all_true = parts.1 };
                same = λ other. absurd (other refl);
                when_true = λ _ _. first;
                when_false = λ _ wrong. absurd (both_ways (a v) wrong parts.0);
              }
          | is_false second ↦
              let all : list_all (makes_true a) (branch v false path) ≡ true = subst (λ (ls : List Literal). list_all (makes_true a) ls ≡ true) (ap (path_at after) second ∙ path_for_false) reached.all_true in
              let parts = and_parts (not (a v)) (list_all (makes_true a) path) all in
              record {
                from = place;
                reached = record { is_leaf = is; all_true = parts.1 };
                same = λ other. absurd (other refl);
                when_true = λ _ wrong. absurd (both_ways (a v) (not-true (a v) parts.0) wrong);
                when_false = λ _ _. second;
              }
        ]

  -- ---- splits and paths stay sound

  sound_kept : (variables node w if_true if_false : ℕ) → IsSplitSound variables nodes node w if_true if_false → node < count → IsSplitSound variables after node w if_true if_false
  sound_kept variables node w if_true if_false sound low =
      record {
        from_one = sound.from_one;
        within = sound.within;
        later = sound.later;
        adjacent = sound.adjacent;
        there = omega (arith, length_after, sound.there);
        path_for_true = path_kept if_true (omega (arith, sound.there, sound.adjacent)) ∙ sound.path_for_true ∙ ap (branch w true) (sym (path_kept node low));
        path_for_false = path_kept if_false sound.there ∙ sound.path_for_false ∙ ap (branch w false) (sym (path_kept node low));
      }

  new_sound : (variables : ℕ) → 1 ≤ v → v ≤ variables → IsSplitSound variables after place v count (count + 1)
  new_sound variables low high =
      record {
        from_one = low;
        within = high;
        later = there;
        adjacent = refl;
        there = omega (arith, length_after);
        path_for_true = path_for_true ∙ ap (branch v true) (sym (path_kept place there));
        path_for_false = path_for_false ∙ ap (branch v false) (sym (path_kept place there));
      }

  -- the splits after are the new one and those before
  sound_after : (variables : ℕ) → 1 ≤ v → v ≤ variables → ((node w if_true if_false : ℕ) → kind_at nodes node ≡ Some (Split w if_true if_false) → IsSplitSound variables nodes node w if_true if_false) → (node w if_true if_false : ℕ) → kind_at after node ≡ Some (Split w if_true if_false) → IsSplitSound variables after node w if_true if_false
  sound_after variables low high sound node w if_true if_false is =
      elim (stands node (kind_within after node (Split w if_true if_false) is)) [
        | is_split here ↦
            let told : ◌≡◌ {A = Option NodeKind} (Some (Split v count (count + 1))) (Some (Split w if_true if_false)) = sym kind_here ∙ sym (ap (kind_at after) here) ∙ is in
            let one : v ≡ w = cc in
            let two : count ≡ if_true = cc in
            let three : count + 1 ≡ if_false = cc in
            subst (λ (n : ℕ). IsSplitSound variables after n w if_true if_false) (sym here)
            (subst (λ (x : ℕ). IsSplitSound variables after place x if_true if_false) one
            (subst (λ (x : ℕ). IsSplitSound variables after place v x if_false) two
            (subst (λ (x : ℕ). IsSplitSound variables after place v count x) three (new_sound variables low high))))
        | is_other before other ↦ sound_kept variables node w if_true if_false (sound node w if_true if_false (sym (kind_kept node before other) ∙ is)) before
        | is_true first ↦ absurd (let e = ap (kind_at after) first ∙ leaf_for_true in cc)
        | is_false second ↦ absurd (let e = ap (kind_at after) second ∙ leaf_for_false in cc)
      ]

  within_after : (variables : ℕ) → 1 ≤ v → v ≤ variables → ((k : ℕ) → is_path_within variables (path_at nodes k) ≡ true) → (k : ℕ) → is_path_within variables (path_at after k) ≡ true
  within_after variables low high within k =
      elim (cases_lt k (length after)) [
        | inr past ↦ ap (λ (n : TreeNode). is_path_within variables n.path) (get_or_past after k (leaf_with []) past)
        | inl here ↦
            let literal = and_from (leb 1 v) (leb v variables) (le-leb 1 v low) (le-leb v variables high) in
            elim (stands k here) [
              | is_split at ↦ ap (is_path_within variables) (path_kept k (omega arith)) ∙ within k
              | is_other before other ↦ ap (is_path_within variables) (path_kept k before) ∙ within k
              | is_true first ↦ ap (λ (n : ℕ). is_path_within variables (path_at after n)) first ∙ ap (is_path_within variables) path_for_true ∙ and_from (leb 1 v && leb v variables) (is_path_within variables path) literal (within place)
              | is_false second ↦ ap (λ (n : ℕ). is_path_within variables (path_at after n)) second ∙ ap (is_path_within variables) path_for_false ∙ and_from (leb 1 v && leb v variables) (is_path_within variables path) literal (within place)
            ]
      ]

  pub shallow_after : IsShallow nodes → length path + 1 ≤ 64 → IsShallow after
  shallow_after shallow room k =
      elim (cases_lt k (length after)) [
        | inr past ↦ omega (arith, ap (λ (n : TreeNode). length n.path) (get_or_past after k (leaf_with []) past))
        | inl here ↦
            elim (stands k here) [
              | is_split at ↦ omega (arith, ap length (path_kept k (omega arith)), shallow k)
              | is_other before other ↦ omega (arith, ap length (path_kept k before), shallow k)
              | is_true first ↦ omega (arith, ap (λ (n : ℕ). length (path_at after n)) first ∙ ap length path_for_true)
              | is_false second ↦ omega (arith, ap (λ (n : ℕ). length (path_at after n)) second ∙ ap length path_for_false)
            ]
      ]

-- ---- the first tree

first_place : (k : ℕ) (kind : NodeKind) → kind_at (leaf_with [] ∷ []) k ≡ Some kind → (k ≡ 0) × (kind ≡ Leaf)
first_place k kind is =
    let low : k ≡ 0 = omega (arith, kind_within (leaf_with [] ∷ []) k kind is) in
    let told : ◌≡◌ {A = Option NodeKind} (Some Leaf) (Some kind) = sym (ap (kind_at (leaf_with [] ∷ [])) low) ∙ is in
    (low, cc)

pub first_shallow : IsShallow (leaf_with [] ∷ [])
first_shallow k =
    elim (cases_eq k 0) [
      | inl first ↦ omega (arith, ap (λ (n : ℕ). length (path_at (leaf_with [] ∷ []) n)) first)
      | inr later ↦ omega (arith, ap (λ (n : TreeNode). length n.path) (get_or_past (leaf_with [] ∷ []) k (leaf_with []) (omega arith)))
    ]

-- ---- laws

pub one_leaf_for_each : OneLeafForEachAssignment
one_leaf_for_each variables nodes a one_leaf =
    (0, record { is_leaf = refl; all_true = refl }, λ other reached. (first_place other Leaf reached.is_leaf).0)
one_leaf_for_each variables nodes a (one_more before place v grows is low high) =
    let old = one_leaf_for_each variables before a grows in
    let there = kind_within before place Leaf is in
    elim (cases_eq place old.0) [
      | inr other ↦
          let apart : old.0 ≢ place = λ e. other (sym e) in (
            old.0,
            reached_kept before place v there a old.0 apart old.1,
            λ k reached.
                let b = reached_before before place v there a is k reached in
                let from : b.from ≡ old.0 = old.2 b.from b.reached in
                b.same (λ e. other (sym e ∙ from)) ∙ from,
          )
      | inl here ↦
          let reached_here = subst (λ (n : ℕ). IsReachedLeaf before a n) (sym here) old.1 in
          elim (cases_Bool (a v)) [
            | inl holds_here ↦ (
              length before,
              reached_true before place v there a holds_here reached_here,
              λ k reached.
                  let b = reached_before before place v there a is k reached in
                  b.when_true (old.2 b.from b.reached ∙ sym here) holds_here,
            )
            | inr fails_here ↦ (
              length before + 1,
              reached_false before place v there a fails_here reached_here,
              λ k reached.
                  let b = reached_before before place v there a is k reached in
                  b.when_false (old.2 b.from b.reached ∙ sym here) fails_here,
            )
          ]
    ]

pub splits_sound : SplitsAreSound
splits_sound variables nodes one_leaf =
    (refl, λ node w if_true if_false is. absurd (let kind = (first_place node (Split w if_true if_false) is).1 in cc))
splits_sound variables nodes (one_more before place v grows is low high) =
    let old = splits_sound variables before grows in
    let there = kind_within before place Leaf is in
    (path_kept before place v there 0 (omega arith) ∙ old.0, sound_after before place v there variables low high old.1)

pub one_leaf_changed : SplitsChangeOneLeaf
one_leaf_changed nodes place v is =
    let there = kind_within nodes place Leaf is in
    record {
      there = there;
      size = length_after nodes place v there;
      here = kind_here nodes place v there;
      leaf_for_true = leaf_for_true nodes place v there;
      leaf_for_false = leaf_for_false nodes place v there;
      path_for_true = path_for_true nodes place v there;
      path_for_false = path_for_false nodes place v there;
      paths_kept = path_kept nodes place v there;
      kinds_kept = kind_kept nodes place v there;
    }

pub paths_within : PathsAreWithin
paths_within variables nodes node one_leaf =
    elim (cases_eq node 0) [
      | inl first ↦ ap (λ (n : ℕ). is_path_within variables (path_at (leaf_with [] ∷ []) n)) first
      | inr later ↦ ap (λ (n : TreeNode). is_path_within variables n.path) (get_or_past (leaf_with [] ∷ []) node (leaf_with []) (omega arith))
    ]
paths_within variables nodes node (one_more before place v grows is low high) =
    within_after before place v (kind_within before place Leaf is) variables low high (λ k. paths_within variables before k grows) node

-- a tree of closed leaves refutes from each node
refutes_below : (variables : ℕ) (nodes : List TreeNode) (clauses : List (List Literal)) (numbers : List ℕ) → ((node w if_true if_false : ℕ) → kind_at nodes node ≡ Some (Split w if_true if_false) → IsSplitSound variables nodes node w if_true if_false) → AreLeavesRefuted nodes clauses numbers → (tree : Tree) (node : ℕ) → IsBelow nodes numbers tree node → Refutes variables clauses (path_at nodes node) tree
refutes_below variables nodes clauses numbers sound closed (leaf number) node below =
    subst (λ (n : ℕ). IsRefuted clauses (path_at nodes node) n) (sym below.1) (closed node below.0)
refutes_below variables nodes clauses numbers sound closed (split w first second) node below =
    let here = sound node w below.0 below.1 below.2 in (
      (here.from_one, here.within),
      subst (λ (path : List Literal). Refutes variables clauses path first) here.path_for_true (refutes_below variables nodes clauses numbers sound closed first below.0 below.3),
      subst (λ (path : List Literal). Refutes variables clauses path second) here.path_for_false (refutes_below variables nodes clauses numbers sound closed second below.1 below.4),
    )

pub closed_refute : ClosedLeavesRefute
closed_refute variables nodes clauses numbers tree grows closed below =
    let sound = splits_sound variables nodes grows in
    subst (λ (path : List Literal). Refutes variables clauses path tree) sound.0 (refutes_below variables nodes clauses numbers sound.1 closed tree 0 below)

pub root_within : (variables : ℕ) (nodes : List TreeNode) → Grows variables nodes → 0 < length nodes
root_within variables nodes one_leaf = omega arith
root_within variables nodes (one_more before place v grows is low high) = omega (arith, length_after before place v (kind_within before place Leaf is))
