-- Cells of a row, one after another.
use Rattle.std.proofs.Common.{◌≡◌, ℕ, zero, suc, ◌+◌, ◌≤◌, List, [], ◌∷◌, ◌++◌, Result, Ok, Err, OnOk, refl, sym, ap, ◌∙◌, add-one, append_assoc, arith}
use Rattle.std.specs.Prelude.{replicate}
use Rattle.charts.specs.Chart.{columns}

-- one more cell
pub one_more : (cell : ℕ → List ℕ) (rank : ℕ) (old out more : List ℕ) → out ≡ old ++ columns cell rank → more ≡ out ++ cell rank → more ≡ old ++ columns cell (rank + 1)
one_more cell rank old out more so_far grows =
    grows ∙ ap (λ (t : List ℕ). t ++ cell rank) so_far ∙ append_assoc old (columns cell rank) (cell rank) ∙ ap (λ (n : ℕ). old ++ columns cell n) (sym (add-one rank))

-- each cell, and the line's end
pub all_cells : {T E : Type 0} (r : Result T E) (cell : ℕ → List ℕ) (ranks rank : ℕ) (old out new ending : List ℕ) → rank ≤ ranks → ranks ≤ rank → out ≡ old ++ columns cell rank → OnOk r (new ≡ out ++ ending) → OnOk r (new ≡ old ++ (columns cell ranks ++ ending))
all_cells (Ok _) cell ranks rank old out new ending within past so_far ends =
    let last : rank ≡ ranks = omega arith in
    ends ∙ ap (λ (t : List ℕ). t ++ ending) so_far ∙ append_assoc old (columns cell rank) ending ∙ ap (λ (n : ℕ). old ++ (columns cell n ++ ending)) last
all_cells (Err _) cell ranks rank old out new ending within past so_far ends = ends

replicate_push : (n x : ℕ) → replicate n x ++ x ∷ [] ≡ replicate (suc n) x
replicate_push zero x = refl
replicate_push (suc n) x = ap (λ (t : List ℕ). x ∷ t) (replicate_push n x)

-- one more of the same
pub once_more : (n x : ℕ) (old out more : List ℕ) → out ≡ old ++ replicate n x → more ≡ out ++ x ∷ [] → more ≡ old ++ replicate (n + 1) x
once_more n x old out more so_far grows =
    grows ∙ ap (λ (t : List ℕ). t ++ x ∷ []) so_far ∙ append_assoc old (replicate n x) (x ∷ []) ∙ ap (λ (t : List ℕ). old ++ t) (replicate_push n x ∙ ap (λ (k : ℕ). replicate k x) (sym (add-one n)))
