-- How a literal is kept in one number.
use Rattle.std.specs.Prelude.{ℕ, zero, suc, refl, ◌≡◌, ◌<◌, ◌+◌, ◌*◌, ◌/◌, ◌%◌, ◌==◌, Bool, true, false}
use Rattle.std.proofs.Common.{arith}
use Rattle.clauses.specs.Clauses.{Literal}

abbrev pub packed_sign : Bool → ℕ
packed_sign true = 1
packed_sign false = 0

-- twice the variable, and one more where the literal is positive
abbrev pub packed : Literal → ℕ
packed l = 2 * l.variable + packed_sign l.positive

abbrev pub unpacked : ℕ → Literal
unpacked number = record { variable = number / 2; positive = number % 2 == 1 }

sign_of_remainder : (r : ℕ) → r < 2 → packed_sign (r == 1) ≡ r
sign_of_remainder zero h = refl
sign_of_remainder (suc zero) h = refl
sign_of_remainder (suc (suc r)) h = absurd (omega arith)

pub packed-unpacked : (number : ℕ) → packed (unpacked number) ≡ number
packed-unpacked number = omega (arith, sign_of_remainder (number % 2) (omega arith))
