-- The map of a program's text: for each of its lines the place in the SPMD text that it comes from.
use Rattle.std.specs.Prelude.{codes, ℕ, zero, suc, ◌+◌, ◌-◌, ◌*◌, ◌/◌, ◌%◌, ◌^◌, Bool, true, false, ◌&&◌, ◌||◌, not, ◌==◌, nat_lt, bit_xor, List, [], ◌∷◌, ◌++◌, length, map, decimal, slice_get, Option, Some, None, if◌then◌else◌}
use Rattle.std.specs.Global.{Vec}
use Rattle.plaintext.specs.Plain.{numeral, text_lines}
use Rattle.unroll.specs.declared.call.Placed.{Placed}
use Rattle.unroll.specs.declared.call.Turn.{Turn}
use Rattle.spmd_program.specs.Lines.{begins_line}
use Rattle.spmd_program.specs.Told.{turns_text}

-- ---- what a line says

-- the end of a line, a blank, a tab or a CR
abbrev pub is_blank_byte : ℕ → Bool
is_blank_byte b = b == 10 || (b == 32 || (b == 9 || b == 13))

-- a blank stands before a byte of a line where blanks came, but not before the first, nor before
-- `<`
abbrev pub blank_before_byte : Bool → Bool → ℕ → List ℕ
blank_before_byte begun blank b = if begun && (blank && not (b == 60)) then 32 ∷ [] else []

-- what a line says up to a comment, with single blanks between its words
abbrev pub words_from : Bool → Bool → List ℕ → List ℕ
words_from begun blank [] = []
words_from begun blank (b ∷ bs) =
    if b == 35 then [] else
    if is_blank_byte b then words_from begun true bs else
    (blank_before_byte begun blank b ++ b ∷ words_from true false bs)

abbrev pub words_of_line : List ℕ → List ℕ
words_of_line line = words_from false false line

-- what each line of a text says
abbrev pub said_lines : List ℕ → List (List ℕ)
said_lines text = map words_of_line (text_lines text)

abbrev pub said_words : Option (List ℕ) → List ℕ
said_words None = []
said_words (Some words) = words

-- ---- entries

-- a byte of a path; a question mark, where it isn't printable ASCII
abbrev pub shown_path_byte : ℕ → ℕ
shown_path_byte b = if nat_lt b 32 || nat_lt 126 b then 63 else b

-- the place of a call: the path of the text, the line there, the turns of loops, and what the line
-- says
abbrev pub words_at : List ℕ → List (Vec ℕ) → List (List ℕ) → List Turn → Placed → List ℕ
words_at path names says turns p =
    path ++ (codes ":" ++ (numeral p.line ++ (turns_text names turns p.turn ++ (codes ": " ++ said_words (slice_get says (p.line - 1))))))

-- the line of the map on the line of the text with this number
abbrev pub map_entry : List ℕ → List (Vec ℕ) → List (List ℕ) → List Turn → ℕ → Placed → List ℕ
map_entry path names says turns number p =
    codes "line " ++ (decimal number ++ (codes ": rank " ++ (numeral p.rank ++ (codes ", " ++ (words_at path names says turns p ++ 10 ∷ [])))))

-- A call that begins the line of this place among all call lines, from 0, stands there below two
-- headings, and below those of its rank and of each lower one.
abbrev pub map_entry_at : List ℕ → List (Vec ℕ) → List (List ℕ) → List Turn → ℕ → Placed → List ℕ
map_entry_at path names says turns place p = if begins_line p.call then map_entry path names says turns (place + p.rank + 4) p else []

abbrev pub next_place : ℕ → Placed → ℕ
next_place place p = if begins_line p.call then place + 1 else place

-- the entries of these calls, the first of which is at this place
abbrev pub map_entries : List ℕ → List (Vec ℕ) → List (List ℕ) → List Turn → ℕ → List Placed → List ℕ
map_entries path names says turns place [] = []
map_entries path names says turns place (p ∷ ps) = map_entry_at path names says turns place p ++ map_entries path names says turns (next_place place p) ps

-- ---- the map

-- the checksum of Fowler, Noll and Vo in its form `1a`, of 64 bits, of bytes behind those of this
-- sum
abbrev pub sum_from : ℕ → List ℕ → ℕ
sum_from sum [] = sum
sum_from sum (b ∷ bs) = sum_from ((bit_xor sum b * 1099511628211) % 2 ^ 64) bs

abbrev pub checksum_of : List ℕ → ℕ
checksum_of bytes = sum_from 14695981039346656037 bytes

-- a hexadecimal digit
abbrev pub hex_digit : ℕ → ℕ
hex_digit n = if nat_lt n 10 then 48 + n else 87 + n

-- so many hexadecimal digits
unfoldable pub hex_text : ℕ → ℕ → List ℕ
hex_text zero n = []
hex_text (suc k) n = hex_text k (n / 16) ++ hex_digit (n % 16) ∷ []

-- the lines that name the text of the map
abbrev pub map_head : List ℕ → List ℕ
map_head text = codes "map 1\nof " ++ (decimal (length text) ++ (codes " bytes, sum " ++ (hex_text 16 (checksum_of text) ++ 10 ∷ [])))

-- the map of a program's text
abbrev pub program_map : List ℕ → List (Vec ℕ) → List ℕ → List Turn → List Placed → List ℕ → List ℕ
program_map path names source turns calls text = map_head text ++ (map_entries (map shown_path_byte path) names (said_lines source) turns 0 calls ++ codes "end\n")
