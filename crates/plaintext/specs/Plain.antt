-- Numbers, words and lines: what every line format of this repository is made of.
-- All numbers here are lists of byte values; a text is the list of its bytes.
use Rattle.std.specs.Prelude.{ℕ, zero, suc, ◌+◌, List, [], ◌∷◌, ◌++◌, map, ◌<◌, ◌≤◌, ◌==◌, if◌then◌else◌}
use Rattle.std.specs.List.{join_with_byte, AllByRecursion, onto_first}
use Rattle.std.specs.Int.Digits.{digits_of}

-- The numeral of a number is its decimal digits, of a number of any size: 0 is the one digit `0`,
-- and no other numeral begins with `0`.
unfoldable pub numeral : ℕ → List ℕ
numeral zero = 48 ∷ []
numeral (suc n) = map (λ d. 48 + d) (digits_of 10 (suc n))

-- The line of some words is the words, parted by one space each, and an LF.
abbrev pub line_of : List (List ℕ) → List ℕ
line_of words = join_with_byte 32 words ++ 10 ∷ []

-- The words, with a space before each.
abbrev pub spaced : List (List ℕ) → List ℕ
spaced [] = []
spaced (word ∷ others) = 32 ∷ (word ++ spaced others)

-- The lines of a text are what each LF ends, the LF with it, and then what stands after the last
-- LF, which may be nothing.
abbrev pub text_lines : List ℕ → List (List ℕ)
text_lines [] = [] ∷ []
text_lines (b ∷ bytes) = if b == 10 then (10 ∷ []) ∷ text_lines bytes else onto_first b (text_lines bytes)

-- A word is plain if each of its bytes is ASCII, and neither a space nor a control.
abbrev pub IsPlain : List ℕ → Type 0
IsPlain word = AllByRecursion (λ b. (33 ≤ b) × (b < 128)) word
