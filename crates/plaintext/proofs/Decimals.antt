-- Numerals of numbers of up to 128 bits.
use Rattle.std.proofs.Common.{◌≡◌, ℕ, zero, suc, ◌+◌, ◌/◌, ◌%◌, ◌^◌, ◌<◌, ◌≤◌, List, [], ◌∷◌, ◌++◌, map, refl, sym, ap, ◌∙◌, arith}
use Rattle.std.specs.Fmt.{decimal}
use Rattle.std.specs.Int.Digits.{digits_of}
use Rattle.std.proofs.lemmas.Int.Digits.{digits_of_step}
use Rattle.std.proofs.lemmas.Fmt.{decimal_by_steps_wide, decimal_digit}
use Rattle.std.proofs.lemmas.List.{map_push}
use Rattle.plaintext.specs.Plain.{numeral}
use Rattle.plaintext.proofs.Numerals.{decimal-numeral}

numeral_above : (m : ℕ) → 0 < m → map (λ d. 48 + d) (digits_of 10 m) ≡ numeral m
unfolding numeral
numeral_above zero h = absurd (omega arith)
numeral_above (suc m) h = refl

-- a number of more than one digit
numeral_step : (n : ℕ) → 10 ≤ n → numeral n ≡ numeral (n / 10) ++ (48 + n % 10) ∷ []
numeral_step n more =
    sym (numeral_above n (omega arith)) ∙ ap (map (λ d. 48 + d)) (digits_of_step 10 n (omega arith) (omega arith)) ∙ map_push (λ d. 48 + d) (digits_of 10 (n / 10)) (n % 10)
    ∙ ap (λ (ds : List ℕ). ds ++ (48 + n % 10) ∷ []) (numeral_above (n / 10) (omega arith))

-- std's digits, of numbers of more than 64 bits too
pub decimal_is : (n : ℕ) → n < 2 ^ 128 → decimal n ≡ numeral n
decimal_is n small =
    decimal_by_steps_wide (λ m ds. ds ≡ numeral m) (λ m digit. sym (decimal_digit m digit) ∙ decimal-numeral m (omega arith))
    (λ m ds more same. ap (λ (ds : List ℕ). ds ++ (48 + m % 10) ∷ []) same ∙ sym (numeral_step m more)) n (omega (arith, small))
