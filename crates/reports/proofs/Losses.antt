-- Whether a list is empty, by its length.
use Rattle.std.proofs.Common.{◌≡◌, ◌∙◌, ap, refl, sym, subst, ℕ, List, [], ◌∷◌, ◌==◌, length, false}

pub empty_list : {X : Type 0} (xs : List X) → length xs ≡ 0 → xs ≡ []
empty_list [] e = refl
empty_list (x ∷ xs) e = absurd cc

pub not_empty : {X : Type 0} (xs : List X) (len : ℕ) → (len == 0) ≡ false → length xs ≡ len → xs ≡ [] → ⊥
not_empty xs len tests is empty =
    let zero : len ≡ 0 = sym is ∙ ap length empty in
    let other : (0 == 0) ≡ false = subst (λ n. (n == 0) ≡ false) zero tests in
    absurd cc
