-- The numbers that the nodes of a tree have.
use Rattle.std.proofs.Common.{◌≡◌, ℕ, ◌<◌, ◌≤◌, Bool, true, false, IsTrue, List, length, get_or, nat_le, refl, subst, sym, ◌∙◌}
use Rattle.std.proofs.lemmas.Bool.{and_parts, leb-true, false≢true}
use Rattle.std.proofs.lemmas.List.Folds.{list_all_at}
use Rattle.refutations.specs.declared.tree.Node.{Node}
use Rattle.refutations.specs.declared.tree.Node.TheVariants.{Split}
use Rattle.refutations.specs.Proofs.{is_proof_number, number_of, are_numbered}

unless_false : (b : Bool) → (b ≡ false → ⊥) → IsTrue b
unless_false true never = refl
unless_false false never = absurd (never refl)

pub number_at : (nodes tree : List Node) (place : ℕ) (node : Node) → nodes ≡ tree → IsTrue (are_numbered tree) → place < length nodes → get_or nodes place (Split 0) ≡ node → IsTrue (is_proof_number (number_of node))
number_at nodes tree place node same numbered below is =
    let all : IsTrue (are_numbered nodes) = subst (λ (ns : List Node). IsTrue (are_numbered ns)) (sym same) numbered in
    let there : Bool = is_proof_number (number_of (get_or nodes place (Split 0))) in
    subst (λ (n : Node). IsTrue (is_proof_number (number_of n))) is
    (unless_false there (λ fails. false≢true (sym (list_all_at (λ (n : Node). is_proof_number (number_of n)) nodes place (Split 0) below fails) ∙ all)))

pub number_bounds : (number : ℕ) → IsTrue (is_proof_number number) → (1 ≤ number) × (number ≤ 2147483647)
number_bounds number is =
    let parts = and_parts (nat_le 1 number) (nat_le number 2147483647) is in
    (leb-true 1 number parts.0, leb-true number 2147483647 parts.1)
