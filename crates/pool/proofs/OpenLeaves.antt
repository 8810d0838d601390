-- Counting open leaves.
use Rattle.std.proofs.Common.{◌≡◌, ◌≢◌, ℕ, zero, suc, ◌+◌, ◌<◌, ◌≤◌, ◌==◌, Bool, true, false, List, [], ◌∷◌, ◌++◌, length, set, replicate, take, get_or, Option, Some, None, slice_get, refl, ap, sym, ◌∙◌, arith, inl, inr, if◌then◌else◌}
use Rattle.std.proofs.lemmas.Bool.{cases_Bool, eqb-true}
use Rattle.std.specs.Option.{option_map}
use Rattle.std.proofs.lemmas.Option.{slice_get-get_or}
use Rattle.std.proofs.lemmas.List.{take_more, take_all, length-take, length-replicate, replicate-append-replicate}
use Rattle.trees.specs.declared.tree.NodeKind.{NodeKind}
use Rattle.trees.specs.declared.tree.NodeKind.TheVariants.{Leaf, Split}
use Rattle.trees.specs.Trees.{TreeNode, leaf_with, kind_at, IsLeaf}
use Rattle.pool.specs.Counts.{is_open_kind, open_count}

-- what one node counts
abbrev pub counted : TreeNode → ℕ → ℕ
counted node number = if is_open_kind node.kind number then 1 else 0

one_for_open : (node : TreeNode) → node.kind ≡ Leaf → counted node 0 ≡ 1
one_for_open node e = ap {B = ℕ} (λ (k : NodeKind). if is_open_kind k 0 then 1 else 0) e

none_for_split : (node : TreeNode) (number v a b : ℕ) → node.kind ≡ Split v a b → counted node number ≡ 0
none_for_split node number v a b e = ap {B = ℕ} (λ (k : NodeKind). if is_open_kind k number then 1 else 0) e

no_open_kind : (k : NodeKind) (number : ℕ) → number ≢ 0 → is_open_kind k number ≡ false
no_open_kind Leaf number e = elim (cases_Bool (number == 0)) [ inl zeroth ↦ absurd (e (eqb-true number 0 zeroth)) | inr other ↦ other ]
no_open_kind (Split v a b) number e = refl

none_for_closed : (node : TreeNode) (number : ℕ) → number ≢ 0 → counted node number ≡ 0
none_for_closed node number e = ap {B = ℕ} (λ (b : Bool). if b then 1 else 0) (no_open_kind node.kind number e)

kind_of_first : (node : TreeNode) (nodes : List TreeNode) → IsLeaf (node ∷ nodes) 0 → node.kind ≡ Leaf
kind_of_first node nodes e = let told : ◌≡◌ {A = Option NodeKind} (Some node.kind) (Some Leaf) = e in cc

none_at_none : (leaf : ℕ) → IsLeaf [] leaf → ⊥
none_at_none leaf e = let told : ◌≡◌ {A = Option NodeKind} None (Some Leaf) = e in cc

-- an open leaf is counted
pub open_counts : (nodes : List TreeNode) (numbers : List ℕ) (leaf : ℕ) → IsLeaf nodes leaf → slice_get numbers leaf ≡ Some 0 → 1 ≤ open_count nodes numbers
open_counts [] numbers leaf is number = absurd (none_at_none leaf is)
open_counts (node ∷ nodes) [] leaf is number = absurd (cc)
open_counts (node ∷ nodes) (n ∷ numbers) zero is number =
    let zeroth : n ≡ 0 = cc in
    omega (arith, one_for_open node (kind_of_first node nodes is), ap (counted node) zeroth)
open_counts (node ∷ nodes) (n ∷ numbers) (suc leaf) is number = omega (arith, open_counts nodes numbers leaf is number)

-- one leaf is closed
pub count_closed : (nodes : List TreeNode) (numbers : List ℕ) (leaf number : ℕ) → IsLeaf nodes leaf → slice_get numbers leaf ≡ Some 0 → number ≢ 0 → open_count nodes (set numbers leaf number) + 1 ≡ open_count nodes numbers
count_closed [] numbers leaf number is was e = absurd (none_at_none leaf is)
count_closed (node ∷ nodes) [] leaf number is was e = absurd (cc)
count_closed (node ∷ nodes) (n ∷ numbers) zero number is was e =
    let zeroth : n ≡ 0 = cc in
    omega (arith, one_for_open node (kind_of_first node nodes is), ap (counted node) zeroth, none_for_closed node number e)
count_closed (node ∷ nodes) (n ∷ numbers) (suc leaf) number is was e = omega (arith, count_closed nodes numbers leaf number is was e)

-- one leaf becomes a split
pub count_split : (nodes : List TreeNode) (numbers : List ℕ) (leaf : ℕ) (made : TreeNode) (v a b : ℕ) → IsLeaf nodes leaf → slice_get numbers leaf ≡ Some 0 → made.kind ≡ Split v a b → open_count (set nodes leaf made) numbers + 1 ≡ open_count nodes numbers
count_split [] numbers leaf made v a b is was e = absurd (none_at_none leaf is)
count_split (node ∷ nodes) [] leaf made v a b is was e = absurd (cc)
count_split (node ∷ nodes) (n ∷ numbers) zero made v a b is was e =
    let zeroth : n ≡ 0 = cc in
    omega (arith, one_for_open node (kind_of_first node nodes is), ap (counted node) zeroth, none_for_split made n v a b e)
count_split (node ∷ nodes) (n ∷ numbers) (suc leaf) made v a b is was e = omega (arith, count_split nodes numbers leaf made v a b is was e)

-- more nodes
pub count_append : (nodes more : List TreeNode) (numbers further : List ℕ) → length nodes ≡ length numbers → open_count (nodes ++ more) (numbers ++ further) ≡ open_count nodes numbers + open_count more further
count_append [] more [] further same = omega arith
count_append [] more (n ∷ numbers) further same = absurd (omega arith)
count_append (node ∷ nodes) more [] further same = absurd (omega arith)
count_append (node ∷ nodes) more (n ∷ numbers) further same = omega (arith, count_append nodes more numbers further (omega arith))

-- no more than there are nodes
pub count_few : (nodes : List TreeNode) (numbers : List ℕ) → open_count nodes numbers ≤ length nodes
count_few [] numbers = omega arith
count_few (node ∷ nodes) [] = omega arith
count_few (node ∷ nodes) (n ∷ numbers) =
    elim (cases_Bool (is_open_kind node.kind n)) [
      | inl one ↦ omega (arith, count_few nodes numbers, ap {B = ℕ} (λ (b : Bool). if b then 1 else 0) one)
      | inr none ↦ omega (arith, count_few nodes numbers, ap {B = ℕ} (λ (b : Bool). if b then 1 else 0) none)
    ]

leaf_if_open : (k : NodeKind) (number : ℕ) → is_open_kind k number ≡ true → (k ≡ Leaf) × (number ≡ 0)
leaf_if_open Leaf number e = (refl, eqb-true number 0 e)
leaf_if_open (Split v a b) number e = absurd (cc)

-- where some are counted, some leaf is open
pub some_open : (nodes : List TreeNode) (numbers : List ℕ) → 1 ≤ open_count nodes numbers → (leaf : ℕ) × IsLeaf nodes leaf × (slice_get numbers leaf ≡ Some 0)
some_open [] numbers some = absurd (omega arith)
some_open (node ∷ nodes) [] some = absurd (omega arith)
some_open (node ∷ nodes) (n ∷ numbers) some =
    elim (cases_Bool (is_open_kind node.kind n)) [
      | inl one ↦ let both = leaf_if_open node.kind n one in (0, ap (λ (k : NodeKind). Some k) both.0, ap (λ (k : ℕ). Some k) both.1)
      | inr none ↦
          let further = some_open nodes numbers (omega (arith, ap {B = ℕ} (λ (b : Bool). if b then 1 else 0) none)) in
          (suc further.0, further.1, further.2)
    ]

-- ---- a tree without closed leaves

zeros_more : (i : ℕ) → replicate {A = ℕ} (i + 1) 0 ≡ replicate {A = ℕ} i 0 ++ 0 ∷ []
zeros_more i = sym (replicate-append-replicate {A = ℕ} i 1 0)

count_more : (nodes : List TreeNode) (i : ℕ) (d : TreeNode) → i < length nodes → open_count (take (i + 1) nodes) (replicate (i + 1) 0) ≡ open_count (take i nodes) (replicate i 0) + counted (get_or nodes i d) 0
count_more nodes i d low =
    let same : length (take i nodes) ≡ length (replicate {A = ℕ} i 0) = omega (arith, length-take i nodes, length-replicate {A = ℕ} i 0) in
    let one : open_count (get_or nodes i d ∷ []) (0 ∷ []) ≡ counted (get_or nodes i d) 0 = omega arith in
    ap (λ (ns : List TreeNode). open_count ns (replicate (i + 1) 0)) (take_more nodes i d low)
    ∙ ap (open_count (take i nodes ++ get_or nodes i d ∷ [])) (zeros_more i)
    ∙ count_append (take i nodes) (get_or nodes i d ∷ []) (replicate i 0) (0 ∷ []) same
    ∙ ap (λ (n : ℕ). open_count (take i nodes) (replicate i 0) + n) one

kind_read : (nodes : List TreeNode) (i : ℕ) (d : TreeNode) → i < length nodes → kind_at nodes i ≡ Some (get_or nodes i d).kind
kind_read nodes i d low = ap (option_map (λ (n : TreeNode). n.kind)) (slice_get-get_or nodes i d low)

pub count_leaf : (nodes : List TreeNode) (i : ℕ) → i < length nodes → IsLeaf nodes i → open_count (take (i + 1) nodes) (replicate (i + 1) 0) ≡ open_count (take i nodes) (replicate i 0) + 1
count_leaf nodes i low is =
    let d = leaf_with [] in
    let told : ◌≡◌ {A = Option NodeKind} (Some (get_or nodes i d).kind) (Some Leaf) = sym (kind_read nodes i d low) ∙ is in
    let leaf_kind : (get_or nodes i d).kind ≡ Leaf = cc in
    omega (arith, count_more nodes i d low, one_for_open (get_or nodes i d) leaf_kind)

pub count_inner : (nodes : List TreeNode) (i : ℕ) → i < length nodes → (IsLeaf nodes i → ⊥) → open_count (take (i + 1) nodes) (replicate (i + 1) 0) ≡ open_count (take i nodes) (replicate i 0)
count_inner nodes i low inner =
    let d = leaf_with [] in
    elim (cases_Bool (is_open_kind (get_or nodes i d).kind 0)) [
      | inl one ↦ absurd (inner (kind_read nodes i d low ∙ ap (λ (k : NodeKind). Some k) (leaf_if_open (get_or nodes i d).kind 0 one).0))
      | inr none ↦ omega (arith, count_more nodes i d low, ap {B = ℕ} (λ (b : Bool). if b then 1 else 0) none)
    ]

pub count_all : (nodes : List TreeNode) (count : ℕ) → count ≡ length nodes → open_count (take count nodes) (replicate count 0) ≡ open_count nodes (replicate (length nodes) 0)
count_all nodes count e =
    ap (λ (n : ℕ). open_count (take n nodes) (replicate n 0)) e ∙ ap (λ (ns : List TreeNode). open_count ns (replicate (length nodes) 0)) (take_all (length nodes) nodes (omega arith))
