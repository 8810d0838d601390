-- The source that words of a map name.
use Rattle.std.specs.Prelude.{◌==◌, ◌-◌, ◌&&◌, ◌||◌, not, nat_le, nat_lt, ℕ, Bool, List, Option, codes, length, reverse, take, take_while}
use Rattle.std.specs.List.{ends_with, find, list_any, slice_split}

-- a blank or a comma, which part the words
abbrev pub is_gap : ℕ → Bool
is_gap byte = byte == 32 || byte == 44

abbrev pub is_digit : ℕ → Bool
is_digit byte = nat_le 48 byte && nat_le byte 57

-- how many digits the bytes end with
abbrev pub last_digits : List ℕ → ℕ
last_digits bytes = length (take_while is_digit (reverse bytes))

-- a byte or more, none of them a quote, and behind them a colon
abbrev pub is_source_name : List ℕ → Bool
is_source_name bytes = nat_lt 1 (length bytes) && (ends_with (λ x y. x == y) bytes (codes ":") && not (list_any (λ byte. byte == 34) bytes))

-- a name, a colon and digits
abbrev pub is_source : List ℕ → Bool
is_source part = nat_lt 0 (last_digits part) && is_source_name (take (length part - last_digits part) part)

-- the first part of the words that is a source
abbrev pub source_of : List ℕ → Option (List ℕ)
source_of words = find is_source (slice_split is_gap words)
