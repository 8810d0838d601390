-- Full trees as the nodes above the last level, and the leaves on it.
use Rattle.std.proofs.Common.{◌≡◌, ℕ, suc, ◌+◌, ◌*◌, ◌^◌, ◌<◌, ◌≤◌, true, false, List, [], ◌∷◌, ◌++◌, length, map, take, drop, refl, ap, subst, sym, ◌∙◌, arith, inl, inr, append_assoc, add-one}
use Rattle.std.specs.List.{All}
use Rattle.std.proofs.lemmas.Bool.{cases_lt}
use Rattle.std.proofs.lemmas.List.{append-nil, length-append, length-map, take_at, drop_at}
use Rattle.std.proofs.lemmas.List.Elements.{All-nil, All-cons, All-head, All-tail, All-same}
use Rattle.std.proofs.lemmas.Nat.{pow_below}
use Rattle.std.proofs.Math.Nat.{pow-succ'}
use Rattle.clauses.specs.Clauses.{Literal}
use Rattle.refutations.specs.Trees.{branch}
use Rattle.trees.specs.Trees.{TreeNode, leaf_with}
use Rattle.cubes.specs.Levels.{inner_nodes, doubled, full_levels, full_tree, paths_from, level_after}
use Rattle.cubes.specs.Laws.{FullTreeSize}

-- the nodes above the last level
abbrev pub inner_of : ℕ → List ℕ → List (List Literal) → List TreeNode
inner_of first [] paths = []
inner_of first (v ∷ vs) paths =
    inner_nodes v (first + length paths) paths ++ inner_of (first + length paths) vs (doubled v paths)

-- the paths of the last level
abbrev pub last_of : List ℕ → List (List Literal) → List (List Literal)
last_of [] paths = paths
last_of (v ∷ vs) paths = last_of vs (doubled v paths)

abbrev pub root : List (List Literal)
root = [] ∷ []

pub length-inner_nodes : (v below : ℕ) (paths : List (List Literal)) → length (inner_nodes v below paths) ≡ length paths
length-inner_nodes v below [] = refl
length-inner_nodes v below (path ∷ paths) = omega (arith, length-inner_nodes v (below + 2) paths)

pub length-doubled : (v : ℕ) (paths : List (List Literal)) → length (doubled v paths) ≡ 2 * length paths
length-doubled v [] = refl
length-doubled v (path ∷ paths) = omega (arith, length-doubled v paths)

full_cut : (vs : List ℕ) (first : ℕ) (paths : List (List Literal)) → full_levels first vs paths ≡ inner_of first vs paths ++ map leaf_with (last_of vs paths)
full_cut [] first paths = refl
full_cut (v ∷ vs) first paths =
    let below = first + length paths in
    ap (λ (ns : List TreeNode). inner_nodes v below paths ++ ns) (full_cut vs below (doubled v paths))
    ∙ sym (append_assoc (inner_nodes v below paths) (inner_of below vs (doubled v paths)) (map leaf_with (last_of vs (doubled v paths))))

last_more : (vs : List ℕ) (v : ℕ) (paths : List (List Literal)) → last_of (vs ++ v ∷ []) paths ≡ doubled v (last_of vs paths)
last_more [] v paths = refl
last_more (w ∷ vs) v paths = last_more vs v (doubled w paths)

inner_more : (vs : List ℕ) (first v : ℕ) (paths : List (List Literal)) → inner_of first (vs ++ v ∷ []) paths ≡ inner_of first vs paths ++ inner_nodes v (first + length (inner_of first vs paths) + length (last_of vs paths)) (last_of vs paths)
inner_more [] first v paths =
    let same : first + length paths ≡ first + 0 + length paths = omega arith in
    append-nil (inner_nodes v (first + length paths) paths) ∙ ap (λ (n : ℕ). inner_nodes v n paths) same
inner_more (w ∷ vs) first v paths =
    let below : ℕ = first + length paths in
    let here : List TreeNode = inner_nodes w below paths in
    let inner : List TreeNode = inner_of below vs (doubled w paths) in
    let last : List (List Literal) = last_of vs (doubled w paths) in
    let same : below + length inner + length last ≡ first + length (here ++ inner) + length last =
    omega (arith, length-append here inner, length-inner_nodes w below paths)
    in
    ap (λ (ns : List TreeNode). here ++ ns) (inner_more vs below v (doubled w paths))
    ∙ sym (append_assoc here inner (inner_nodes v (below + length inner + length last) last))
    ∙ ap (λ (n : ℕ). (here ++ inner) ++ inner_nodes v n last) same

-- ---- sizes

last_size : (vs : List ℕ) (paths : List (List Literal)) → length (last_of vs paths) ≡ 2 ^ length vs * length paths
last_size [] paths = omega arith
last_size (v ∷ vs) paths =
    omega (arith, last_size vs (doubled v paths), length-doubled v paths, ap (λ (n : ℕ). 2 ^ length vs * n) (length-doubled v paths), ap (λ (n : ℕ). n * length paths) (pow-succ' 2 (length vs)))

inner_size : (vs : List ℕ) (first : ℕ) (paths : List (List Literal)) → length (inner_of first vs paths) + length paths ≡ 2 ^ length vs * length paths
inner_size [] first paths = omega arith
inner_size (v ∷ vs) first paths =
    let below : ℕ = first + length paths in
    omega (arith, inner_size vs below (doubled v paths), length-append (inner_nodes v below paths) (inner_of below vs (doubled v paths)), length-inner_nodes v below paths, length-doubled v paths, ap (λ (n : ℕ). 2 ^ length vs * n) (length-doubled v paths), ap (λ (n : ℕ). n * length paths) (pow-succ' 2 (length vs)))

length-last : (vs : List ℕ) → length (last_of vs root) ≡ 2 ^ length vs
length-last vs = omega (arith, last_size vs root)

length-inner : (vs : List ℕ) → length (inner_of 0 vs root) + 1 ≡ 2 ^ length vs
length-inner vs = omega (arith, inner_size vs 0 root)

length-full : (vs : List ℕ) → length (full_tree vs) ≡ length (inner_of 0 vs root) + length (last_of vs root)
length-full vs =
    ap length (full_cut vs 0 root) ∙ length-append (inner_of 0 vs root) (map leaf_with (last_of vs root)) ∙ ap (λ (n : ℕ). length (inner_of 0 vs root) + n) (length-map (last_of vs root) leaf_with)

pub full_size : FullTreeSize
full_size vs =
    let twice : 2 ^ (length vs + 1) ≡ 2 * 2 ^ length vs = rw add-one (pow-succ' 2 (length vs)) in
    omega (arith, length-full vs, length-last vs, length-inner vs, twice)

-- ---- lengths of paths

doubled_long : (v n : ℕ) (paths : List (List Literal)) → All (λ path. length path ≡ n) paths → All (λ path. length path ≡ suc n) (doubled v paths)
doubled_long v n [] all = All-nil (λ (path : List Literal). length path ≡ suc n)
doubled_long v n (path ∷ paths) all =
    let here = All-head (λ (path : List Literal). length path ≡ n) path paths all in
    All-cons (λ (path : List Literal). length path ≡ suc n) (branch v true path) (branch v false path ∷ doubled v paths) (ap suc here)
    (All-cons (λ (path : List Literal). length path ≡ suc n) (branch v false path) (doubled v paths) (ap suc here)
    (doubled_long v n paths (All-tail (λ (path : List Literal). length path ≡ n) path paths all)))

last_long : (vs : List ℕ) (n : ℕ) (paths : List (List Literal)) → All (λ path. length path ≡ n) paths → All (λ path. length path ≡ n + length vs) (last_of vs paths)
last_long [] n paths all = subst (λ (m : ℕ). All (λ (path : List Literal). length path ≡ m) paths) (omega arith) all
last_long (v ∷ vs) n paths all =
    let same : suc n + length vs ≡ n + suc (length vs) = omega arith in
    subst (λ (m : ℕ). All (λ (path : List Literal). length path ≡ m) (last_of vs (doubled v paths))) same (last_long vs (suc n) (doubled v paths) (doubled_long v n paths all))

-- ---- the tree over some variables, where this is the number of the first leaf on its last level

paths_of_leaves : (paths : List (List Literal)) → map (λ (node : TreeNode). node.path) (map leaf_with paths) ≡ paths
paths_of_leaves [] = refl
paths_of_leaves (path ∷ paths) = ap (λ (ps : List (List Literal)). path ∷ ps) (paths_of_leaves paths)

few_powers : (d : ℕ) → d ≤ 14 → 2 ^ d ≤ 16384
few_powers d low =
    elim (cases_lt d 14) [
      | inl below ↦ omega (arith, pow_below d 14 below)
      | inr from ↦ let same : d ≡ 14 = omega arith in omega (arith, ap (λ (n : ℕ). 2 ^ n) same)
    ]

module _ (vs : List ℕ) (first : ℕ) (nodes : List TreeNode) (is : nodes ≡ full_tree vs) (at : first ≡ length (inner_of 0 vs root)) where
  abbrev inner : List TreeNode
  inner = inner_of 0 vs root

  abbrev last : List (List Literal)
  last = last_of vs root

  cut : nodes ≡ inner ++ map leaf_with last
  cut = is ∙ full_cut vs 0 root

  taken : take first nodes ≡ inner
  taken = ap (take first) cut ∙ take_at inner (map leaf_with last) first (sym at)

  dropped : drop first nodes ≡ map leaf_with last
  dropped = ap (drop first) cut ∙ drop_at inner (map leaf_with last) first (sym at)

  pub paths_are : paths_from first nodes ≡ last
  paths_are = ap (map (λ (node : TreeNode). node.path)) dropped ∙ paths_of_leaves last

  pub leaves_are : drop first nodes ≡ map leaf_with (paths_from first nodes)
  leaves_are = dropped ∙ ap (map leaf_with) (sym paths_are)

  pub count_is : length nodes ≡ first + length last
  count_is = ap length is ∙ length-full vs ∙ ap (λ (n : ℕ). n + length last) (sym at)

  pub first_there : first ≤ length nodes
  first_there = omega (arith, count_is)

  pub few_nodes : length vs ≤ 14 → length nodes + 2 * length (paths_from first nodes) ≤ 65536
  few_nodes low = omega (arith, count_is, ap length paths_are, length-last vs, length-inner vs, few_powers (length vs) low)

  pub short_paths : length vs ≤ 14 → All (λ path. length path < 64) (paths_from first nodes)
  short_paths low =
      All-same (λ (path : List Literal). length path < 64) (paths_from first nodes) last paths_are
      (λ k d there. let long = last_long vs 0 root (All-cons (λ (path : List Literal). length path ≡ 0) [] [] refl (All-nil (λ (path : List Literal). length path ≡ 0))) k d there in omega arith)

  pub level_more : (v : ℕ) → level_after first v nodes ≡ full_tree (vs ++ v ∷ [])
  level_more v =
      let same : length nodes ≡ 0 + length inner + length last = omega (arith, count_is, at) in
      ap (λ (ns : List TreeNode). ns ++ (inner_nodes v (length nodes) (paths_from first nodes) ++ map leaf_with (doubled v (paths_from first nodes)))) taken
      ∙ ap (λ (ps : List (List Literal)). inner ++ (inner_nodes v (length nodes) ps ++ map leaf_with (doubled v ps))) paths_are
      ∙ ap (λ (n : ℕ). inner ++ (inner_nodes v n last ++ map leaf_with (doubled v last))) same
      ∙ sym (append_assoc inner (inner_nodes v (0 + length inner + length last) last) (map leaf_with (doubled v last)))
      ∙ ap (λ (ns : List TreeNode). ns ++ map leaf_with (doubled v last)) (sym (inner_more vs 0 v root))
      ∙ ap (λ (ps : List (List Literal)). inner_of 0 (vs ++ v ∷ []) root ++ map leaf_with ps) (sym (last_more vs v root))
      ∙ sym (full_cut (vs ++ v ∷ []) 0 root)

  pub first_more : (v : ℕ) → length nodes ≡ length (inner_of 0 (vs ++ v ∷ []) root)
  first_more v =
      let below : ℕ = 0 + length inner + length last in
      omega (arith, count_is, at, ap length (inner_more vs 0 v root), length-append inner (inner_nodes v below last), length-inner_nodes v below last)
