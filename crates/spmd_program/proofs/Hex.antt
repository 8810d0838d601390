-- Hexadecimal digits.
use Rattle.std.proofs.Common.{◌≡◌, ℕ, zero, suc, ◌/◌, ◌%◌, List, [], ◌∷◌, ◌++◌, refl, sym, ap, ◌∙◌, append_assoc}
use Rattle.std.proofs.lemmas.List.{append-nil}
use Rattle.spmd_program.specs.Maps.{hex_digit, hex_text}

hex_zero : (n : ℕ) → hex_text zero n ≡ []
unfolding hex_text
hex_zero n = refl

hex_step : (k n : ℕ) → hex_text (suc k) n ≡ hex_text k (n / 16) ++ hex_digit (n % 16) ∷ []
unfolding hex_text
hex_step k n = refl

-- no digit
pub no_digit : (out : List ℕ) (count n : ℕ) → count ≡ 0 → out ≡ out ++ hex_text count n
no_digit out count n e = sym (append-nil out) ∙ ap (λ (t : List ℕ). out ++ t) (sym (ap (λ (k : ℕ). hex_text k n) e ∙ hex_zero n))

-- a digit behind the others
pub one_digit : (out mid new : List ℕ) (count k n digit : ℕ) → count ≡ suc k → digit ≡ hex_digit (n % 16) → mid ≡ out ++ hex_text k (n / 16) → new ≡ mid ++ digit ∷ []
    → new ≡ out ++ hex_text count n
one_digit out mid new count k n digit e is before wrote =
    wrote
    ∙ ap (λ (t : List ℕ). t ++ digit ∷ []) before
    ∙ append_assoc out (hex_text k (n / 16)) (digit ∷ [])
    ∙ ap (λ (d : ℕ). out ++ (hex_text k (n / 16) ++ d ∷ [])) is
    ∙ ap (λ (t : List ℕ). out ++ t) (sym (ap (λ (c : ℕ). hex_text c n) e ∙ hex_step k n))
