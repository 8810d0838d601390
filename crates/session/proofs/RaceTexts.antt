-- Texts that are made of equal parts.
use Rattle.std.proofs.Common.{◌≡◌, ℕ, List, IfOk, Result, subst}
use Rattle.std.specs.declared.alloc.AllocError.{AllocError}

-- a text of three parts, and of equal ones
pub same_parts : {A : Type 0} (r : Result A AllocError) (view : A → List ℕ) (text : List ℕ → List ℕ → List ℕ → List ℕ) (a b d x y z : List ℕ) → a ≡ x → b ≡ y → d ≡ z
    → IfOk r (λ w. view w ≡ text a b d) → IfOk r (λ w. view w ≡ text x y z)
same_parts {A} r view text a b d x y z p q s is =
    subst (λ (k : List ℕ). IfOk r (λ w. view w ≡ text x y k)) s
    (subst (λ (k : List ℕ). IfOk r (λ w. view w ≡ text x k d)) q
    (subst (λ (k : List ℕ). IfOk r (λ w. view w ≡ text k b d)) p is))
