-- Parts of a line that are written one after another.
use Rattle.std.proofs.Common.{◌≡◌, ◌∙◌, ap, List, ℕ, ◌++◌, append_assoc}

-- what is written after words and a number stands behind them
pub then_more : (old words number more new : List ℕ) → new ≡ old ++ (words ++ number) → new ++ more ≡ old ++ (words ++ (number ++ more))
then_more old words number more new is =
    ap (λ (l : List ℕ). l ++ more) is ∙ append_assoc old (words ++ number) more ∙ ap (λ (l : List ℕ). old ++ l) (append_assoc words number more)

-- two parts that are written one after the other
pub then_two : (old words more mid new : List ℕ) → mid ≡ old ++ words → new ≡ mid ++ more → new ≡ old ++ (words ++ more)
then_two old words more mid new mid_is is = is ∙ ap (λ (l : List ℕ). l ++ more) mid_is ∙ append_assoc old words more
