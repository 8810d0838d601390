-- What inner functions promise one another, beside `specs/Hands.antt`.
use Rattle.std.specs.Prelude.{◌≡◌, ℕ, ◌+◌, Bool, List, [], ◌∷◌, count_by}
use mathlib.Core.Option.{some}
use lib.ListN.{get_elem?}
use Rattle.steal.specs.declared.rule.Hand.{Hand}
use Rattle.steal.specs.Hands.{all_parts}

abbrev pub hand : ℕ → List ℕ → List ℕ → Hand
hand parts pushed taken = record { parts = parts; pushed = pushed; taken = taken }

abbrev pub total : (Hand → ℕ) → List Hand → ℕ
total f [] = 0
total f (v ∷ views) = f v + total f views

-- a pass with no part has pushed and taken nothing
abbrev pub IdleIsEmpty : List Hand → Type 0
IdleIsEmpty views = (port : ℕ) (v : Hand) → get_elem? views port ≡ some v → v.parts ≡ 0 → (v.pushed ≡ []) × (v.taken ≡ [])

-- of the cubes that pass a test, as many were pushed as were taken and are left
pub record Balanced (items : List ℕ) (views : List Hand) : Type 0 where
  pub parts : total (λ v. v.parts) views ≡ all_parts
  pub even : (p : ℕ → Bool) → total (λ v. count_by p v.pushed) views ≡ total (λ v. count_by p v.taken) views + count_by p items
  pub idle : IdleIsEmpty views
