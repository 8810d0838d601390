-- Full trees, level by level.
use Rattle.std.specs.Prelude.{ℕ, ◌+◌, true, false, List, [], ◌∷◌, ◌++◌, length, map, take, drop}
use Rattle.clauses.specs.Clauses.{Literal}
use Rattle.refutations.specs.Trees.{branch}
use Rattle.trees.specs.Trees.{TreeNode, leaf_with}
use Rattle.trees.specs.declared.tree.NodeKind.TheVariants.{Split}

-- the nodes of a level with these paths, split on a variable, where this is the number of the first
-- node below them
abbrev pub inner_nodes : ℕ → ℕ → List (List Literal) → List TreeNode
inner_nodes v below [] = []
inner_nodes v below (path ∷ paths) =
    record { path = path; kind = Split v below (below + 1) } ∷ inner_nodes v (below + 2) paths

-- the paths of the level below, first for true and then for false
abbrev pub doubled : ℕ → List (List Literal) → List (List Literal)
doubled v [] = []
doubled v (path ∷ paths) = branch v true path ∷ branch v false path ∷ doubled v paths

-- the nodes of a level, whose first node has this number and whose nodes have these paths, and all
-- below it
abbrev pub full_levels : ℕ → List ℕ → List (List Literal) → List TreeNode
full_levels first [] paths = map leaf_with paths
full_levels first (v ∷ variables) paths =
    inner_nodes v (first + length paths) paths ++ full_levels (first + length paths) variables (doubled v paths)

-- the full tree that branches on these variables, on the first one at the root
abbrev pub full_tree : List ℕ → List TreeNode
full_tree variables = full_levels 0 variables ([] ∷ [])

-- ---- one level more

-- the paths of the nodes from a number on
abbrev pub paths_from : ℕ → List TreeNode → List (List Literal)
paths_from first nodes = map (λ node. node.path) (drop first nodes)

-- all nodes from a number on are split
abbrev pub level_after : ℕ → ℕ → List TreeNode → List TreeNode
level_after first v nodes =
    let paths = paths_from first nodes in
    take first nodes ++ (inner_nodes v (length nodes) paths ++ map leaf_with (doubled v paths))
