-- Lines that derive, one by one.
use Rattle.std.proofs.Common.{◌≡◌, ℕ, List, [], ◌∷◌, ◌++◌, length, take, Option, Some, slice_get, sym, ap, ◌∙◌, subst, arith, inl, inr}
use Rattle.std.proofs.Math.Seq.{take-append_seam}
use Rattle.std.proofs.lemmas.List.{take-append-le}
use Rattle.std.proofs.lemmas.Option.{slice_get_within}
use Rattle.callorder.proofs.Lookups.{slice_get_of_append}
use Rattle.clauses.specs.Clauses.{Conjunction}
use Rattle.refutations.specs.Derivations.{Derives}
use Rattle.refutations.specs.Proofs.{ProofLine}
use Rattle.refutations.specs.Refutations.{AreDerived}

pub derived_none : (f : Conjunction) → AreDerived f []
derived_none f place line low below at = absurd (omega (arith, below))

only_one : (line found : ProofLine) (k : ℕ) → slice_get (line ∷ []) k ≡ Some found → found ≡ line
only_one line found k at =
    let within = slice_get_within (line ∷ []) k found at in
    let first : k ≡ 0 = omega (arith, within) in
    let told : ◌≡◌ {A = Option ProofLine} (Some found) (Some line) = sym at ∙ ap (slice_get (line ∷ [])) first in
    cc

-- one line more
pub derived_push : (f : Conjunction) (lines : List ProofLine) (line : ProofLine) → AreDerived f lines → Derives f lines line → AreDerived f (lines ++ line ∷ [])
derived_push f lines line before derived place found low below at =
    elim (slice_get_of_append lines (line ∷ []) place found at) [
      | inl early ↦
          subst (λ (earlier : List ProofLine). Derives f earlier found) (sym (take-append-le place lines (line ∷ []) (omega (arith, early.1))))
          (before place found low early.1 early.0)
      | inr late ↦
          let is_line : found ≡ line = only_one line found late.0 late.2 in
          let within = slice_get_within (line ∷ []) late.0 found late.2 in
          let here : place ≡ length lines = omega (arith, late.1, within) in
          let front : take place (lines ++ line ∷ []) ≡ lines = ap (λ (n : ℕ). take n (lines ++ line ∷ [])) here ∙ take-append_seam lines (line ∷ []) in
          subst (λ (earlier : List ProofLine). Derives f earlier found) (sym front) (subst (λ (l : ProofLine). Derives f lines l) (sym is_line) derived)
    ]
