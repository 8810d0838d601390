-- A list whose first elements come last has the same elements.
use Rattle.std.proofs.Common.{◌≡◌, ℕ, List, ◌++◌, take, drop, IsPermutation, subst, sym}
use Rattle.std.proofs.lemmas.List.{take-append-drop}
use Rattle.std.proofs.lemmas.List.Sorted.{IsPermutation-append_comm}

pub rotated : {X : Type 0} (xs ys : List X) (i : ℕ) → ys ≡ drop i xs ++ take i xs → IsPermutation xs ys
rotated {X = X} xs ys i is =
    subst (λ (zs : List X). IsPermutation xs zs) (sym is)
    (subst (λ (zs : List X). IsPermutation zs (drop i xs ++ take i xs)) (take-append-drop i xs) (IsPermutation-append_comm (take i xs) (drop i xs)))
