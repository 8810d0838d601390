-- A text has one stem.
use Rattle.std.proofs.Common.{◌≡◌, ◌∙◌, ◌+◌, ◌-◌, ◌≤◌, ℕ, List, inl, inr, ap, sym, arith, length, length-append, take}
use Rattle.std.proofs.lemmas.Bool.{cases_lt}
use Rattle.std.proofs.Math.Seq.{take-append_seam}
use Rattle.places.specs.Marks.{IsStem}

no_longer : (text a b : List ℕ) → IsStem text a → IsStem text b → length b ≤ length a
no_longer text a b one other = elim (cases_lt (length a) (length b)) [
  | inl longer ↦
      let size : length text ≡ length b + length other.name = ap length other.parts ∙ length-append b other.name in
      absurd (other.last (omega (arith, longer)) (one.letters (length b - 1) (omega (arith, longer)) (omega (arith, longer, size))))
  | inr within ↦ within
]

pub same_stem : (text a b : List ℕ) → IsStem text a → IsStem text b → a ≡ b
same_stem text a b one other =
    let sizes : length a ≡ length b = omega (arith, no_longer text a b one other, no_longer text b a other one) in
    sym (ap (take (length a)) one.parts ∙ take-append_seam a one.name)
    ∙ ap (λ (n : ℕ). take n text) sizes
    ∙ (ap (take (length b)) other.parts ∙ take-append_seam b other.name)
