-- First places in lists.
use Rattle.std.proofs.Common.{◌≡◌, ℕ, ◌+◌, ◌<◌, ◌≤◌, false, cond, not, ◌==◌, List, [], ◌∷◌, length, refl, ap, ◌∙◌, arith}
use Rattle.std.specs.Prelude.{All}
use Rattle.std.proofs.lemmas.Bool.Decides.{nat_tests}
use Rattle.formula.proofs.Elements.{Each, each_of_all}
use Rattle.formula_tables.specs.Places.{first_place}

apart : (k n bound : ℕ) → n < bound → bound ≤ k → (k == n) ≡ false
apart k n bound below above = grind (arith, nat_tests)

past_each : (k bound : ℕ) (numbers : List ℕ) → Each (λ n. n < bound) numbers → bound ≤ k → first_place k numbers ≡ length numbers
past_each k bound [] h above = refl
past_each k bound (n ∷ numbers) h above =
    let rest = past_each k bound numbers h.1 above in
    ap (λ z. cond (not z) (1 + first_place k numbers) 0) (apart k n bound h.0 above) ∙ omega (arith, rest)

-- a number past the bound of all doesn't stand among them
pub first_past : (k bound : ℕ) (numbers : List ℕ) → All (λ n. n < bound) numbers → bound ≤ k → first_place k numbers ≡ length numbers
first_past k bound numbers h above = past_each k bound numbers (each_of_all (λ n. n < bound) numbers h) above
