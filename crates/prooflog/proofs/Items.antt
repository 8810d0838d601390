-- Items of a refutation: proof lines, the line `tree`, and nodes, in this order.
use Rattle.std.proofs.Common.{◌≡◌, List, [], ◌∷◌, ◌++◌, map, refl, sym, inl, inr, ◌⊎◌}
use Rattle.plaintext.proofs.FirstFaults.{heads}
use Rattle.refutations.specs.Proofs.{ProofLine}
use Rattle.refutations.specs.declared.tree.Node.{Node}
use Rattle.prooflog.specs.Refutations.{Item, a_proof, the_tree, a_node}

proofs_injective : (a b : ProofLine) → a_proof a ≡ a_proof b → a ≡ b
proofs_injective a b e = cc

nodes_injective : (a b : Node) → a_node a ≡ a_node b → a ≡ b
nodes_injective a b e = cc

-- the item after some proof lines is the next of them, or the line `tree`
abbrev pub NextOfLines : (all done : List ProofLine) (below : List Item) (item : Item) (rest : List Item) → Type 0
NextOfLines all done below item rest =
    ((line : ProofLine) × (others : List ProofLine) × (item ≡ a_proof line) × (all ≡ done ++ line ∷ others)) ⊎ ((item ≡ the_tree) × (all ≡ done) × (below ≡ rest))

pub next_of_lines : (all done : List ProofLine) (below : List Item) (item : Item) (rest : List Item) → map a_proof all ++ the_tree ∷ below ≡ map a_proof done ++ item ∷ rest → NextOfLines all done below item rest
next_of_lines [] [] below item rest e = let h = heads the_tree item below rest e in inr (sym h.0, refl, h.1)
next_of_lines [] (d ∷ done) below item rest e = absurd (let h = heads the_tree (a_proof d) below (map a_proof done ++ item ∷ rest) e in let same = h.0 in cc)
next_of_lines (p ∷ all) [] below item rest e = inl (p, all, sym (heads (a_proof p) item (map a_proof all ++ the_tree ∷ below) rest e).0, refl)
next_of_lines (p ∷ all) (d ∷ done) below item rest e =
    let h = heads (a_proof p) (a_proof d) (map a_proof all ++ the_tree ∷ below) (map a_proof done ++ item ∷ rest) e in
    let same : p ≡ d = proofs_injective p d h.0 in
    elim (next_of_lines all done below item rest h.1) [
      | inl x ↦ inl (x.0, x.1, x.2, (λ i. same i ∷ x.3 i))
      | inr x ↦ inr (x.0, (λ i. same i ∷ x.1 i), x.2)
    ]

-- no proof lines alone are all items
pub tree_missing : (all done : List ProofLine) (below : List Item) → map a_proof all ++ the_tree ∷ below ≡ map a_proof done → ⊥
tree_missing [] [] below e = cc
tree_missing [] (d ∷ done) below e = let h = heads the_tree (a_proof d) below (map a_proof done) e in let same = h.0 in cc
tree_missing (p ∷ all) [] below e = cc
tree_missing (p ∷ all) (d ∷ done) below e = tree_missing all done below (heads (a_proof p) (a_proof d) (map a_proof all ++ the_tree ∷ below) (map a_proof done) e).1

-- the items on both sides of the line `tree`
pub cut_at_tree : (all done : List ProofLine) (below rest : List Item) → map a_proof all ++ the_tree ∷ below ≡ map a_proof done ++ the_tree ∷ rest → (all ≡ done) × (below ≡ rest)
cut_at_tree all done below rest e = elim (next_of_lines all done below the_tree rest e) [
  | inl x ↦ absurd (let same = x.2 in cc)
  | inr x ↦ (x.1, x.2)
]

pub same_nodes : (all done : List Node) → map a_node all ≡ map a_node done → all ≡ done
same_nodes [] [] e = refl
same_nodes [] (d ∷ done) e = absurd (cc)
same_nodes (n ∷ all) [] e = absurd (cc)
same_nodes (n ∷ all) (d ∷ done) e =
    let h = heads (a_node n) (a_node d) (map a_node all) (map a_node done) e in
    let first = nodes_injective n d h.0 in
    let others = same_nodes all done h.1 in
    (λ i. first i ∷ others i)

-- the item after some nodes is a node
pub next_of_nodes : (all done : List Node) (item : Item) (rest : List Item) → map a_node all ≡ map a_node done ++ item ∷ rest → (node : Node) × (others : List Node) × (item ≡ a_node node) × (all ≡ done ++ node ∷ others)
next_of_nodes [] [] item rest e = absurd (cc)
next_of_nodes [] (d ∷ done) item rest e = absurd (cc)
next_of_nodes (n ∷ all) [] item rest e = (n, all, sym (heads (a_node n) item (map a_node all) rest e).0, refl)
next_of_nodes (n ∷ all) (d ∷ done) item rest e =
    let h = heads (a_node n) (a_node d) (map a_node all) (map a_node done ++ item ∷ rest) e in
    let first = nodes_injective n d h.0 in
    let x = next_of_nodes all done item rest h.1 in
    (x.0, x.1, x.2, (λ i. first i ∷ x.3 i))
