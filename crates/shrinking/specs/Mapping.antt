-- The map of a smaller text: for each of its call lines the line of the given text that it is left
-- of.
use Rattle.std.specs.Prelude.{codes, ℕ, ◌+◌, ◌-◌, Bool, ◌||◌, not, nat_lt, List, [], ◌∷◌, ◌++◌, get_or, map, if◌then◌else◌}
use Rattle.std.specs.Str.{bytes_eq}
use Rattle.plaintext.specs.Plain.{numeral}
use Rattle.places.specs.Maps.{map_heading}
use Rattle.shrinking.specs.Left.{lines_in, words_in}

-- whether the first of the words is this one
abbrev pub begins : List ℕ → List (List ℕ) → Bool
begins word words = bytes_eq (get_or words 0 []) word

-- whether a line of these words is a call's: it is no heading, and not empty
abbrev pub is_call : List (List ℕ) → Bool
is_call words = not (begins (codes "rank") words || begins (codes "ranks") words || begins (codes "policy") words || begins [] words)

-- how many ranks have their headings above what follows a line of these words
abbrev pub ranks_after : ℕ → List (List ℕ) → ℕ
ranks_after ranks words = if begins (codes "rank") words then ranks + 1 else ranks

-- a byte of a path; a question mark, where it isn't printable ASCII
abbrev pub shown_byte : ℕ → ℕ
shown_byte byte = if nat_lt byte 32 || nat_lt 126 byte then 63 else byte

-- the line of the map on the line of the smaller text with this number: its rank, the path, and the
-- number of the line there
abbrev pub entry : List ℕ → ℕ → ℕ → ℕ → List ℕ
entry path line rank number =
    codes "line " ++ (numeral line ++ (codes ": rank " ++ (numeral rank ++ (codes ", " ++ (path ++ (codes ":" ++ (numeral number ++ 10 ∷ [])))))))

-- a line of these words that is a call's has one; so many ranks have their headings above
abbrev pub entry_if_call : List ℕ → ℕ → ℕ → List (List ℕ) → ℕ → List ℕ
entry_if_call path line ranks words number = if is_call words then entry path line (ranks - 1) number else []

-- the entries of these lines, the first of which has this number, and of the numbers of the lines
-- that they are left of
abbrev pub entries : List ℕ → ℕ → ℕ → List (List ℕ) → List ℕ → List ℕ
entries path line ranks [] numbers = []
entries path line ranks (words ∷ lines) [] = []
entries path line ranks (words ∷ lines) (n ∷ ns) =
    entry_if_call path line ranks (words_in words) n ++ entries path (line + 1) (ranks_after ranks (words_in words)) lines ns

-- the map of the smaller text, by the path of the given one
abbrev pub map_text : List ℕ → List ℕ → List ℕ → List ℕ
map_text path text numbers =
    codes "map 1\n" ++ (map_heading text ++ 10 ∷ (entries (map shown_byte path) 1 0 (lines_in text) numbers ++ codes "end\n"))
