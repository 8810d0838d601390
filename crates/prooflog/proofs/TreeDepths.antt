-- The depths of nodes in preorder are those of the tree.
use Rattle.std.proofs.Common.{◌≡◌, ℕ, ◌+◌, List, [], ◌∷◌, ◌++◌, refl, sym, ap, ◌∙◌, append_assoc}
use Rattle.std.proofs.lemmas.List.{append-nil}
use Rattle.refutations.specs.declared.tree.Node.{Node}
use Rattle.refutations.specs.BinaryTrees.{Tree, leaf, split, preorder}
use Rattle.prooflog.specs.Refutations.{depths}
use Rattle.prooflog.specs.Depths.{depths_in, DepthsAreOfTheTree}

depths_from : (tree : Tree) (depth : ℕ) (roots : List ℕ) (nodes : List Node) → depths (depth ∷ roots) (preorder tree ++ nodes) ≡ depths_in depth tree ++ depths roots nodes
depths_from (leaf number) depth roots nodes = refl
depths_from (split variable first second) depth roots nodes =
    let below : List ℕ = (depth + 1) ∷ roots in
    ap (λ (ns : List Node). depth ∷ depths ((depth + 1) ∷ below) ns) (append_assoc (preorder first) (preorder second) nodes)
    ∙ ap (λ (ds : List ℕ). depth ∷ ds) (
    depths_from first (depth + 1) below (preorder second ++ nodes)
    ∙ ap (λ (ds : List ℕ). depths_in (depth + 1) first ++ ds) (depths_from second (depth + 1) roots nodes)
    ∙ sym (append_assoc (depths_in (depth + 1) first) (depths_in (depth + 1) second) (depths roots nodes))
    )

pub depths_are : DepthsAreOfTheTree
depths_are tree = ap (depths (0 ∷ [])) (sym (append-nil (preorder tree))) ∙ depths_from tree 0 [] [] ∙ append-nil (depths_in 0 tree)
