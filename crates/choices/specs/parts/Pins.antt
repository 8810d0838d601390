-- What inner functions promise one another, beside `specs/Pins.antt`.
use Rattle.std.specs.Prelude.{◌≡◌, ℕ, ◌+◌, List, [], ◌∷◌, ◌++◌, length}
use Rattle.plaintext.specs.Plain.{text_lines}
use Rattle.choices.specs.Pins.{concatenated_lines}

-- the line of this number, from 1, without its LF; the lines before it are the front, and the lines
-- after it the back
pub record AreAround (text : List ℕ) (number : ℕ) (front old back : List ℕ) : Type 0 where
  pub before : List (List ℕ)
  pub after : List (List ℕ)
  pub cut : text_lines text ≡ before ++ (old ++ 10 ∷ []) ∷ after
  pub place : number ≡ length before + 1
  pub front_is : front ≡ concatenated_lines before
  pub back_is : back ≡ concatenated_lines after

-- so many lines stand before the rest
pub record IsPastLines (text : List ℕ) (count : ℕ) (rest : List ℕ) : Type 0 where
  pub before : List (List ℕ)
  pub cut : text_lines text ≡ before ++ text_lines rest
  pub many : length before ≡ count
