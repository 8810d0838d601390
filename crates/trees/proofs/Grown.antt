-- What is kept of a tree's limits where it is made and where a leaf is split.
use Rattle.std.proofs.Common.{◌≡◌, ℕ, ◌+◌, ◌<◌, ◌≤◌, true, false, List, [], ◌∷◌, ◌++◌, length, get_or, set, ap, subst, sym, ◌∙◌, arith, inl, inr}
use Rattle.std.proofs.lemmas.Bool.{cases_lt}
use Rattle.std.proofs.lemmas.List.{set-append_left, length-append, get_or_append_left, get_or_read}
use Rattle.refutations.specs.Trees.{branch}
use Rattle.trees.specs.declared.tree.NodeKind.TheVariants.{Leaf, Split}
use Rattle.trees.specs.Trees.{TreeNode, TreeState, leaf_with, path_at, IsLeaf, split_at, one_leaf, one_more, HasNoRoom, IsGrownTree}
use Rattle.trees.proofs.Splits.{kind_within, length_after, shallow_after, first_shallow}

pub grown_first : (variables : ℕ) (nodes : List TreeNode) → variables ≤ 2147483647 → nodes ≡ leaf_with [] ∷ [] → IsGrownTree (record { variables = variables; nodes = nodes })
grown_first variables nodes fits are =
    subst (λ (ns : List TreeNode). IsGrownTree (record { variables = variables; nodes = ns })) (sym are)
    (record { variables_fit = fits; grows = one_leaf; few = omega arith; shallow = first_shallow })

grown_after : (variables : ℕ) (nodes : List TreeNode) (place v : ℕ) → IsGrownTree (record { variables = variables; nodes = nodes }) → IsLeaf nodes place → 1 ≤ v → v ≤ variables → (HasNoRoom nodes place → ⊥) → IsGrownTree (record { variables = variables; nodes = split_at nodes place v })
grown_after variables nodes place v grown is low high room =
    let there = kind_within nodes place Leaf is in
    let short : length (path_at nodes place) + 1 ≤ 64 = elim (cases_lt 64 (length (path_at nodes place) + 1)) [ inl long ↦ absurd (room (inr long)) | inr short ↦ short ] in
    let few : length nodes + 2 ≤ 65536 = elim (cases_lt 65536 (length nodes + 2)) [ inl many ↦ absurd (room (inl many)) | inr few ↦ few ] in
    record {
      variables_fit = grown.variables_fit;
      grows = one_more nodes place v grown.grows is low high;
      few = omega (arith, length_after nodes place v there);
      shallow = shallow_after nodes place v there grown.shallow short;
    }

-- the same for the state of a tree with these nodes
pub state_grown_after : (state : TreeState) (variables : ℕ) (nodes new : List TreeNode) (place v : ℕ) → record { variables = variables; nodes = nodes } ≡ state → IsGrownTree (record { variables = variables; nodes = nodes }) → IsLeaf state.nodes place → 1 ≤ v → v ≤ state.variables → (HasNoRoom state.nodes place → ⊥) → new ≡ split_at nodes place v → IsGrownTree (record { variables = variables; nodes = new })
state_grown_after state variables nodes new place v view grown is low high room are =
    let same : nodes ≡ state.nodes = ap (λ (s : TreeState). s.nodes) view in
    let as_many : variables ≡ state.variables = ap (λ (s : TreeState). s.variables) view in
    subst (λ (ns : List TreeNode). IsGrownTree (record { variables = variables; nodes = ns })) (sym are)
    (grown_after variables nodes place v grown
    (subst (λ (ns : List TreeNode). IsLeaf ns place) (sym same) is)
    low
    (omega arith)
    (λ none. room (subst (λ (ns : List TreeNode). HasNoRoom ns place) same none)))

pub split_made : (nodes more : List TreeNode) (place v : ℕ) (first second made : TreeNode) → place < length nodes → more ≡ nodes ++ first ∷ second ∷ [] → first ≡ leaf_with (branch v true (path_at nodes place)) → second ≡ leaf_with (branch v false (path_at nodes place)) → made ≡ record { path = path_at nodes place; kind = Split v (length nodes) (length nodes + 1) } → set more place made ≡ split_at nodes place v
split_made nodes more place v first second made there are one two three =
    ap (λ (ns : List TreeNode). set ns place made) are
    ∙ set-append_left nodes (first ∷ second ∷ []) place made there
    ∙ ap (λ (m : TreeNode). set nodes place m ++ first ∷ second ∷ []) three
    ∙ ap (λ (m : TreeNode). set nodes place (record { path = path_at nodes place; kind = Split v (length nodes) (length nodes + 1) }) ++ m ∷ second ∷ []) one
    ∙ ap (λ (m : TreeNode). set nodes place (record { path = path_at nodes place; kind = Split v (length nodes) (length nodes + 1) }) ++ leaf_with (branch v true (path_at nodes place)) ∷ m ∷ []) two

-- the path of a node that is read
pub path_read : (nodes : List TreeNode) (place : ℕ) (node : TreeNode) → place < length nodes → node ≡ get_or nodes place node → node.path ≡ path_at nodes place
path_read nodes place node there read = ap (λ (n : TreeNode). n.path) (get_or_read nodes place node there read (leaf_with []))

-- the same where more nodes stand behind
pub path_read_before : (nodes more behind : List TreeNode) (place : ℕ) (node : TreeNode) → place < length nodes → more ≡ nodes ++ behind → node ≡ get_or more place node → node.path ≡ path_at nodes place
path_read_before nodes more behind place node there are read =
    path_read more place node (omega (arith, ap length are, length-append nodes behind)) read
    ∙ ap (λ (ns : List TreeNode). path_at ns place) are
    ∙ ap (λ (n : TreeNode). n.path) (get_or_append_left nodes behind (leaf_with []) place there)
