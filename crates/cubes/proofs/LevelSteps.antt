-- A level whose nodes are split one after another.
use Rattle.std.proofs.Common.{◌≡◌, ℕ, ◌+◌, ◌-◌, ◌*◌, ◌<◌, ◌≤◌, true, false, List, [], ◌∷◌, ◌++◌, length, map, take, drop, get_or, set, Some, refl, ap, subst, sym, ◌∙◌, arith, append_assoc}
use Rattle.std.specs.List.{All}
use Rattle.std.specs.Option.{option_map}
use Rattle.std.proofs.lemmas.List.{append-nil, length-append, length-map, length-take-le, length-drop, take-append-drop, take_all, drop_all, take_more, drop_more, get_or_at, set_at}
use Rattle.std.proofs.lemmas.Option.{slice_get-get_or}
use Rattle.clauses.specs.Clauses.{Literal}
use Rattle.refutations.specs.Trees.{branch}
use Rattle.trees.specs.declared.tree.NodeKind.TheVariants.{Split}
use Rattle.trees.specs.Trees.{TreeNode, TreeState, leaf_with, path_at, IsLeaf, split_at}
use Rattle.cubes.specs.Levels.{inner_nodes, doubled, paths_from, level_after}
use Rattle.cubes.proofs.FullTrees.{length-inner_nodes, length-doubled}

-- the nodes where so many of a level are split
abbrev pub split_so_far : ℕ → ℕ → List TreeNode → ℕ → List TreeNode
split_so_far first v nodes count =
    let paths = paths_from first nodes in
    take first nodes ++ (inner_nodes v (length nodes) (take count paths) ++ (map leaf_with (drop count paths) ++ map leaf_with (doubled v (take count paths))))

-- a split node and its place
abbrev split_node : ℕ → ℕ → List Literal → TreeNode
split_node v below path = record { path = path; kind = Split v below (below + 1) }

inner_push : (v below : ℕ) (paths : List (List Literal)) (path : List Literal) → inner_nodes v below (paths ++ path ∷ []) ≡ inner_nodes v below paths ++ split_node v (below + 2 * length paths) path ∷ []
inner_push v below [] path =
    let same : below ≡ below + 2 * 0 = omega arith in
    ap (λ (n : ℕ). split_node v n path ∷ []) same
inner_push v below (first ∷ paths) path =
    let same : below + 2 + 2 * length paths ≡ below + 2 * length (first ∷ paths) = omega arith in
    ap (λ (ns : List TreeNode). split_node v below first ∷ ns) (inner_push v (below + 2) paths path)
    ∙ ap (λ (n : ℕ). split_node v below first ∷ (inner_nodes v (below + 2) paths ++ split_node v n path ∷ [])) same

doubled_push : (v : ℕ) (paths : List (List Literal)) (path : List Literal) → doubled v (paths ++ path ∷ []) ≡ doubled v paths ++ branch v true path ∷ branch v false path ∷ []
doubled_push v [] path = refl
doubled_push v (first ∷ paths) path =
    ap (λ (ps : List (List Literal)). branch v true first ∷ branch v false first ∷ ps) (doubled_push v paths path)

leaves-append : (xs ys : List (List Literal)) → map leaf_with (xs ++ ys) ≡ map leaf_with xs ++ map leaf_with ys
leaves-append [] ys = refl
leaves-append (x ∷ xs) ys = ap (λ (ns : List TreeNode). leaf_with x ∷ ns) (leaves-append xs ys)

module _ (first v : ℕ) (nodes : List TreeNode) (there : first ≤ length nodes) (leaves : drop first nodes ≡ map leaf_with (paths_from first nodes)) where
  abbrev paths : List (List Literal)
  paths = paths_from first nodes

  paths_length : first + length paths ≡ length nodes
  paths_length =
      let mapped = length-map (drop first nodes) (λ (node : TreeNode). node.path) in
      omega (arith, mapped, length-drop first nodes)

  pub none_split : nodes ≡ split_so_far first v nodes 0
  none_split =
      sym
      (ap (λ (ns : List TreeNode). take first nodes ++ ns) (append-nil (map leaf_with paths) ∙ sym leaves)
      ∙ take-append-drop first nodes)

  pub all_split : (count : ℕ) → first + count ≡ length nodes → split_so_far first v nodes count ≡ level_after first v nodes
  all_split count end =
      let whole : length paths ≤ count = omega (arith, paths_length) in
      ap (λ (ps : List (List Literal)). take first nodes ++ (inner_nodes v (length nodes) (take count paths) ++ (map leaf_with ps ++ map leaf_with (doubled v (take count paths))))) (drop_all count paths whole)
      ∙ ap (λ (ps : List (List Literal)). take first nodes ++ (inner_nodes v (length nodes) ps ++ map leaf_with (doubled v ps))) (take_all count paths whole)

  module _ (count : ℕ) (low : count < length paths) where
    abbrev path : List Literal
    path = get_or paths count []

    abbrev done : List TreeNode
    done = take first nodes ++ inner_nodes v (length nodes) (take count paths)

    abbrev after : List TreeNode
    after = map leaf_with (drop (count + 1) paths) ++ map leaf_with (doubled v (take count paths))

    abbrev state : List TreeNode
    state = split_so_far first v nodes count

    done_length : length done ≡ first + count
    done_length =
        omega (
          arith,
          length-append (take first nodes) (inner_nodes v (length nodes) (take count paths)),
          length-take-le first nodes there,
          length-inner_nodes v (length nodes) (take count paths),
          length-take-le count paths (omega arith),
        )

    state_cut : state ≡ done ++ leaf_with path ∷ after
    state_cut =
        ap (λ (ps : List (List Literal)). take first nodes ++ (inner_nodes v (length nodes) (take count paths) ++ (map leaf_with ps ++ map leaf_with (doubled v (take count paths))))) (drop_more paths count [] low)
        ∙ sym (append_assoc (take first nodes) (inner_nodes v (length nodes) (take count paths)) (leaf_with path ∷ after))

    pub state_length : length state ≡ length nodes + 2 * count
    state_length =
        omega (
          arith,
          ap length state_cut,
          length-append done (leaf_with path ∷ after),
          done_length,
          length-append (map leaf_with (drop (count + 1) paths)) (map leaf_with (doubled v (take count paths))),
          length-map (drop (count + 1) paths) leaf_with,
          length-map (doubled v (take count paths)) leaf_with,
          length-doubled v (take count paths),
          length-take-le count paths (omega arith),
          length-drop (count + 1) paths,
          paths_length,
        )

    node_there : get_or state (first + count) (leaf_with []) ≡ leaf_with path
    node_there =
        ap (λ (ns : List TreeNode). get_or ns (first + count) (leaf_with [])) state_cut
        ∙ get_or_at done (leaf_with path) after (leaf_with []) (first + count) done_length

    pub leaf_there : IsLeaf state (first + count)
    leaf_there =
        ap (option_map (λ (n : TreeNode). n.kind)) (slice_get-get_or state (first + count) (leaf_with []) (omega (arith, state_length, paths_length)))
        ∙ ap (λ (n : TreeNode). Some n.kind) node_there

    pub path_there : path_at state (first + count) ≡ path
    path_there = ap (λ (n : TreeNode). n.path) node_there

    pub one_more_split : split_at state (first + count) v ≡ split_so_far first v nodes (count + 1)
    one_more_split =
        let two : List TreeNode = leaf_with (branch v true path) ∷ leaf_with (branch v false path) ∷ [] in
        let node : TreeNode = split_node v (length nodes + 2 * count) path in
        let so_far : List (List Literal) = take count paths in
        let rest : List TreeNode = map leaf_with (drop (count + 1) paths) in
        let so_long : length so_far ≡ count = length-take-le count paths (omega arith) in
        let more : take (count + 1) paths ≡ so_far ++ path ∷ [] = take_more paths count [] low in
        let begin : take first nodes ++ inner_nodes v (length nodes) (take (count + 1) paths) ≡ done ++ node ∷ [] =
        ap (λ (ps : List (List Literal)). take first nodes ++ inner_nodes v (length nodes) ps) more
        ∙ ap (λ (ns : List TreeNode). take first nodes ++ ns) (inner_push v (length nodes) so_far path)
        ∙ sym (append_assoc (take first nodes) (inner_nodes v (length nodes) so_far) (split_node v (length nodes + 2 * length so_far) path ∷ []))
        ∙ ap (λ (n : ℕ). done ++ split_node v (length nodes + 2 * n) path ∷ []) so_long
        in
        let end : map leaf_with (doubled v (take (count + 1) paths)) ≡ map leaf_with (doubled v so_far) ++ two =
        ap (λ (ps : List (List Literal)). map leaf_with (doubled v ps)) more
        ∙ ap (map leaf_with) (doubled_push v so_far path)
        ∙ leaves-append (doubled v so_far) (branch v true path ∷ branch v false path ∷ [])
        in
        ap (λ (p : List Literal). set state (first + count) (split_node v (length state) p) ++ leaf_with (branch v true p) ∷ leaf_with (branch v false p) ∷ []) path_there
        ∙ ap (λ (n : ℕ). set state (first + count) (split_node v n path) ++ two) state_length
        ∙ ap (λ (ns : List TreeNode). set ns (first + count) node ++ two) state_cut
        ∙ ap (λ (ns : List TreeNode). ns ++ two) (set_at done (leaf_with path) after node (first + count) done_length)
        ∙ append_assoc done (node ∷ after) two
        ∙ ap (λ (ns : List TreeNode). done ++ node ∷ ns) (append_assoc rest (map leaf_with (doubled v so_far)) two)
        ∙ sym (append_assoc done (node ∷ []) (rest ++ (map leaf_with (doubled v so_far) ++ two)))
        ∙ ap (λ (ns : List TreeNode). ns ++ (rest ++ (map leaf_with (doubled v so_far) ++ two))) (sym begin)
        ∙ ap (λ (ns : List TreeNode). (take first nodes ++ inner_nodes v (length nodes) (take (count + 1) paths)) ++ (rest ++ ns)) (sym end)
        ∙ append_assoc (take first nodes) (inner_nodes v (length nodes) (take (count + 1) paths)) (rest ++ map leaf_with (doubled v (take (count + 1) paths)))

-- one step of the walk through a level, where these are the trees at its begin and now
module _ (first v next : ℕ) (start now : TreeState) (there : first ≤ length start.nodes) (leaves : drop first start.nodes ≡ map leaf_with (paths_from first start.nodes)) (from : first ≤ next) (low : next < length start.nodes) (is : now ≡ record start { nodes = split_so_far first v start.nodes (next - first) }) where
  abbrev count : ℕ
  count = next - first

  below : count < length (paths_from first start.nodes)
  below = omega (arith, paths_length first v start.nodes there leaves)

  place : first + count ≡ next
  place = omega arith

  nodes_are : now.nodes ≡ split_so_far first v start.nodes count
  nodes_are = ap (λ (t : TreeState). t.nodes) is

  pub next_is_leaf : IsLeaf now.nodes next
  next_is_leaf =
      subst (λ (n : ℕ). IsLeaf now.nodes n) place
      (subst (λ (ns : List TreeNode). IsLeaf ns (first + count)) (sym nodes_are) (leaf_there first v start.nodes there leaves count below))

  pub next_few : length start.nodes + 2 * length (paths_from first start.nodes) ≤ 65536 → length now.nodes + 2 ≤ 65536
  next_few few = omega (arith, ap length nodes_are, state_length first v start.nodes there leaves count below, below)

  next_path : path_at now.nodes next ≡ get_or (paths_from first start.nodes) count []
  next_path =
      ap (path_at now.nodes) (sym place)
      ∙ ap (λ (ns : List TreeNode). path_at ns (first + count)) nodes_are
      ∙ path_there first v start.nodes there leaves count below

  pub next_short : All (λ path. length path < 64) (paths_from first start.nodes) → length (path_at now.nodes next) < 64
  next_short short = omega (arith, ap length next_path, short count [] below)

  pub next_state : record now { nodes = split_at now.nodes next v } ≡ record start { nodes = split_so_far first v start.nodes (next + 1 - first) }
  next_state =
      let one_more : count + 1 ≡ next + 1 - first = omega arith in
      let nodes_after : split_at now.nodes next v ≡ split_so_far first v start.nodes (next + 1 - first) =
      ap (λ (n : ℕ). split_at now.nodes n v) (sym place)
      ∙ ap (λ (ns : List TreeNode). split_at ns (first + count) v) nodes_are
      ∙ one_more_split first v start.nodes there leaves count below
      ∙ ap (split_so_far first v start.nodes) one_more
      in
      λ t. record { variables = (is t).variables; nodes = nodes_after t }
