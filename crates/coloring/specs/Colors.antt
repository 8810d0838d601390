-- Answers in color, on a terminal.
use Rattle.std.specs.Prelude.{◌==◌, ◌||◌, ℕ, Bool, if◌then◌else◌, List, ◌∷◌, ◌++◌, codes, Option, Some, None}
use Rattle.std.specs.List.{flat_map, starts_with}
use Rattle.plaintext.specs.Plain.{text_lines}

-- the line begins with these words
abbrev pub line_begins_with : List ℕ → List ℕ → Bool
line_begins_with line words = starts_with (λ x y. x == y) line words

-- the number of a color by ECMA-48: green where there is no deadlock, red where there is one, and
-- yellow where no answer is known or the program is refused; none for another line
abbrev pub color_of : List ℕ → Option (List ℕ)
color_of line =
    if line_begins_with line (codes "no deadlock") then Some (codes "32")
    else if line_begins_with line (codes "deadlock") || line_begins_with line (codes "cycle: ") then Some (codes "31")
    else if line_begins_with line (codes "unknown ") || line_begins_with line (codes "refused ") then Some (codes "33")
    else None

-- a line in bold type of this color, until behind its LF
abbrev pub painted : Option (List ℕ) → List ℕ → List ℕ
painted None line = line
painted (Some color) line = 27 ∷ (codes "[1;" ++ (color ++ (codes "m" ++ (line ++ 27 ∷ codes "[0m"))))

abbrev pub colored_line : List ℕ → List ℕ
colored_line line = painted (color_of line) line

-- the text, each line in its color
abbrev pub colored : List ℕ → List ℕ
colored text = flat_map colored_line (text_lines text)
