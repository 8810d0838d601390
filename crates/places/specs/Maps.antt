-- The map of a program's text.
use Rattle.std.specs.Prelude.{◌≡◌, ◌⊎◌, ◌<◌, ◌≤◌, ◌+◌, ◌*◌, ◌%◌, ◌^◌, ◌-◌, ℕ, false, List, [], ◌∷◌, ◌++◌, codes, decimal, drop, length, Option, Some, slice_get}
use Rattle.std.specs.Fmt.{digits, format_spec, padded_integral}
use Rattle.std.specs.List.{AllByRecursion, Contains, fold}
use Rattle.plaintext.specs.Fronts.{IsFirstFaultyLine}
use Rattle.plaintext.specs.Plain.{numeral, text_lines}
use Rattle.places.specs.declared.entries.MapEntry.{MapEntry}
use Rattle.places.specs.declared.map.MapFault.{MapFault}
use Rattle.places.specs.declared.map.MapFault.TheVariants as faults
use Rattle.places.specs.declared.map.Places.{Places}
use lib.Bits.{bit_xor}

-- ---- its lines

abbrev pub IsDigit : ℕ → Type 0
IsDigit byte = (48 ≤ byte) × (byte ≤ 57)

abbrev pub AreDigits : List ℕ → Type 0
AreDigits bytes = AllByRecursion IsDigit bytes

-- the line of a map on the line of a text whose number has these digits: its rank, and what is said
-- of it
abbrev pub entry_line : List ℕ → List ℕ → List ℕ → List ℕ
entry_line digits rank words = codes "line " ++ (digits ++ (codes ": rank " ++ (rank ++ (codes ", " ++ words))))

-- the line, without its LF, is such a line
abbrev pub IsLineOf : List ℕ → List ℕ → List ℕ → Type 0
IsLineOf line digits words = (rank : List ℕ) × AreDigits digits × AreDigits rank × (line ≡ entry_line digits rank words)

-- one of the lines says these words of the line of a text whose number has these digits
abbrev pub HasLineOf : List (List ℕ) → List ℕ → List ℕ → Type 0
HasLineOf lines digits words = (line : List ℕ) × Contains lines (line ++ 10 ∷ []) × IsLineOf line digits words

-- a line of the map below its first two says so
abbrev pub HasEntry : List ℕ → List ℕ → List ℕ → Type 0
HasEntry map digits words = HasLineOf (drop 2 (text_lines map)) digits words

abbrev pub StartsWith : List ℕ → List ℕ → Type 0
StartsWith front line = (more : List ℕ) × (line ≡ front ++ more)

-- a line on no line of the text
abbrev pub IsRemark : List ℕ → Type 0
IsRemark line =
    StartsWith (codes "text ") line ⊎ (StartsWith (codes "note: ") line ⊎ (StartsWith (codes "file ") line
    ⊎ (StartsWith (codes "comm ") line ⊎ (StartsWith (codes "tag ") line ⊎ (line ≡ codes "end")))))

-- ---- which text it is of

-- the checksum of Fowler, Noll and Vo in its form `1a`, of 64 bits
abbrev pub sum_more : ℕ → ℕ → ℕ
sum_more sum byte = (bit_xor sum byte * 0x100000001b3) % 2 ^ 64

abbrev pub sum_of : List ℕ → ℕ
sum_of bytes = fold sum_more 0xcbf29ce484222325 bytes

-- sixteen hexadecimal digits, as `{:016x}` writes them
abbrev pub hex_digits : ℕ → List ℕ
hex_digits n = padded_integral (format_spec 32 0 4 16 (2 ^ 64 - 1)) false [] (digits 16 false n)

-- the line, without its LF, by which a map names its text
abbrev pub map_heading : List ℕ → List ℕ
map_heading text = codes "of " ++ (decimal (length text) ++ (codes " bytes, sum " ++ hex_digits (sum_of text)))

-- ---- what may stand in it

-- the line is on a line of the text of which no line above says anything; numbers count from 1
pub record IsNewEntry (text : List ℕ) (above : List (List ℕ)) (line : List ℕ) : Type 0 where
  pub n : ℕ
  pub words : List ℕ
  pub says : IsLineOf line (numeral n) words
  pub some : 0 < n
  pub within : n < length (text_lines text)
  pub small : n < 2147483648
  pub first : (others : List ℕ) → HasLineOf above (numeral n) others → ⊥

-- behind the line `end` the map may end
abbrev pub IsEnd : List (List ℕ) → List ℕ → Type 0
IsEnd above line = (line ≡ []) × ((front : List (List ℕ)) × (above ≡ front ++ (codes "end" ++ 10 ∷ []) ∷ []))

-- The line, with its LF, may stand in a map of the text below these lines: `map 1`, then the text's
-- name, then remarks and entries. Behind the last LF stands a line of no byte.
abbrev pub MayStand : List ℕ → List (List ℕ) → List ℕ → Type 0
MayStand text [] line = line ≡ codes "map 1" ++ 10 ∷ []
MayStand text (first ∷ []) line = line ≡ map_heading text ++ 10 ∷ []
MayStand text (first ∷ second ∷ above) line =
    IsEnd above line ⊎ ((words : List ℕ) × (line ≡ words ++ 10 ∷ []) × (IsRemark words ⊎ IsNewEntry text above words))

-- each of the lines may stand where it stands
abbrev pub CanAllStand : List ℕ → List (List ℕ) → Type 0
CanAllStand text lines = (above : List (List ℕ)) (line : List ℕ) (below : List (List ℕ)) → lines ≡ above ++ line ∷ below → MayStand text above line

abbrev pub IsMapOf : List ℕ → List ℕ → Type 0
IsMapOf text map = CanAllStand text (text_lines map)

-- ---- what is wrong with one

-- the line of this number, from 1, is the first that may not stand there
pub record IsFaultyLine (text map : List ℕ) (number : ℕ) (line : List ℕ) : Type 0 where
  pub above : List (List ℕ)
  pub faulty : IsFirstFaultyLine (CanAllStand text) map above line
  pub number_is : number ≡ length above + 1

-- the second line names another text, where it begins as a name; else the first faulty line is told
abbrev pub IsMapFault : List ℕ → List ℕ → MapFault → Type 0
IsMapFault text map faults.Memory = Unit {0}
IsMapFault text map faults.OtherText = (words : List ℕ) × IsFaultyLine text map 2 (words ++ 10 ∷ []) × StartsWith (codes "of ") words
IsMapFault text map (faults.Line number) =
    (line : List ℕ) × IsFaultyLine text map number line × (number ≡ 2 → (words : List ℕ) → line ≡ words ++ 10 ∷ [] → StartsWith (codes "of ") words → ⊥)

-- ---- its entries as a list

-- The entries are those of the lines, each at the place of its number, and no other.
pub record AreOf (lines : List (List ℕ)) (entries : List (Option MapEntry)) : Type 0 where
  pub said : (n : ℕ) (entry : MapEntry) → slice_get entries n ≡ Some (Some entry)
      → HasLineOf lines entry.number.now entry.words.now × (numeral n ≡ entry.number.now)
  pub all : (digits words : List ℕ) → HasLineOf lines digits words
      → (n : ℕ) × (entry : MapEntry) × (slice_get entries n ≡ Some (Some entry)) × (n < 2147483648) × (entry.number.now ≡ digits) × (entry.words.now ≡ words)

abbrev pub AreFrom : List ℕ → Places → Type 0
AreFrom map places = AreOf (drop 2 (text_lines map)) places.entries.items
