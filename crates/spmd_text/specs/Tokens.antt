-- The pieces of a text: what each byte does, from the first to the last.
use Rattle.std.specs.Prelude.{ℕ, ◌+◌, ◌-◌, ◌*◌, ◌^◌, min, ℤ, pos, Bool, true, false, ◌&&◌, ◌||◌, not, nat_eq, nat_lt, nat_le, List, [], ◌∷◌, ◌++◌, length, Option, Some, None, Result, Ok, Err, if◌then◌else◌}
use Rattle.std.specs.Str.{bytes_eq}
use Rattle.spmd_text.specs.declared.fault.ParseFault.{ParseFault}
use Rattle.spmd_text.specs.declared.fault.ParseReason.{ParseReason}
use Rattle.spmd_text.specs.declared.fault.ParseReason.TheVariants as reason
use Rattle.spmd_text.specs.declared.piece.Word.{Word}
use Rattle.spmd_text.specs.declared.piece.Piece.{Piece}
use Rattle.spmd_text.specs.declared.piece.Piece.TheVariants as piece
use Rattle.spmd_text.specs.declared.piece.Token.{Token}
use Rattle.spmd_text.specs.Words.{keyword_of}

-- How far a text is cut: the pieces and the names so far; the letters and digits of the word that
-- is going on; one of = ! < >, to which a = may come; the line; whether a comment is going on; how
-- many brackets are open; and whether the last piece ends a line or wants more, as a comma does.
pub record Cutting : Type 0 where
  pub tokens : List Token
  pub names : List (List ℕ)
  pub word : List ℕ
  pub sign : Option ℕ
  pub line : ℕ
  pub comment : Bool
  pub brackets : ℕ
  pub goes_on : Bool

abbrev pub Step : Type 0
Step = Result Cutting ParseReason

abbrev pub on : {A B : Type 0} → Result A ParseReason → (A → Result B ParseReason) → Result B ParseReason
on (Err why) go = Err why
on (Ok x) go = go x

-- ---- pieces

-- a line goes on after a comma, and has ended after its end
abbrev pub wants_more : Piece → Bool
wants_more piece.Comma = true
wants_more piece.LineEnd = true
wants_more _ = false

abbrev pub piece_pushed : Piece → Cutting → Cutting
piece_pushed p s = record { tokens = s.tokens ++ record { line = s.line; piece = p } ∷ []; names = s.names; word = s.word; sign = s.sign; line = s.line; comment = s.comment; brackets = s.brackets; goes_on = wants_more p }

-- ---- numbers, words and names

abbrev pub is_digit_byte : ℕ → Bool
is_digit_byte c = nat_le 48 c && nat_le c 57

-- letters, digits and _
abbrev pub is_word_byte : ℕ → Bool
is_word_byte c = (is_digit_byte c || (nat_le 65 c && nat_le c 90) || (nat_le 97 c && nat_le c 122)) || nat_eq c 95

-- the number that the digits make behind those that made this value: below 2^63, and digits alone
abbrev pub number_from : ℕ → List ℕ → Result ℤ ParseReason
number_from value [] = Ok (pos value)
number_from value (d ∷ ds) =
    if is_digit_byte d
    then if nat_lt (value * 10 + (d - 48)) (2 ^ 63) then number_from (value * 10 + (d - 48)) ds else Err reason.NumberTooLarge
    else Err reason.Character

-- the place of the first of these names that is this word, where the first one has this place
abbrev pub place_from : List ℕ → ℕ → List (List ℕ) → Option ℕ
place_from word k [] = None
place_from word k (name ∷ others) = if bytes_eq name word then Some k else place_from word (k + 1) others

abbrev pub placed : ℕ → Result ℕ ParseReason
placed place = if nat_lt 4294967295 place then Err reason.TextTooLarge else Ok place

abbrev pub with_name : Cutting → Cutting
with_name s = record { tokens = s.tokens; names = s.names ++ s.word ∷ []; word = s.word; sign = s.sign; line = s.line; comment = s.comment; brackets = s.brackets; goes_on = s.goes_on }

-- a name is its place in the list of names; a new one is added at the end
unfoldable pub named_new : Cutting → Step
named_new s = on (placed (length s.names)) (λ k. Ok (piece_pushed (piece.Name k) (with_name s)))

abbrev pub name_pushed : Option ℕ → Cutting → Step
name_pushed None s = named_new s
name_pushed (Some place) s = on (placed place) (λ k. Ok (piece_pushed (piece.Name k) s))

unfoldable pub name_ended : Cutting → Step
name_ended s = if nat_lt 32 (length s.word) then Err reason.NameTooLong else name_pushed (place_from s.word 0 s.names) s

abbrev pub known_or_named : Option Word → Cutting → Step
known_or_named (Some w) s = Ok (piece_pushed (piece.Word w) s)
known_or_named None s = name_ended s

-- a word that begins with a digit is a number; else it is a word of the language, or a name
unfoldable pub worded : ℕ → Cutting → Step
worded first s = if is_digit_byte first then on (number_from 0 s.word) (λ n. Ok (piece_pushed (piece.Number n) s)) else known_or_named (keyword_of s.word) s

abbrev pub wordless : Cutting → Cutting
wordless s = record { tokens = s.tokens; names = s.names; word = []; sign = s.sign; line = s.line; comment = s.comment; brackets = s.brackets; goes_on = s.goes_on }

abbrev pub word_ended_by : List ℕ → Cutting → Step
word_ended_by [] s = Ok s
word_ended_by (first ∷ others) s = on (worded first s) (λ t. Ok (wordless t))

unfoldable pub word_ended : Cutting → Step
word_ended s = word_ended_by s.word s

-- ---- signs, and the ends of lines

abbrev pub with_sign : Option ℕ → Cutting → Cutting
with_sign sign s = record { tokens = s.tokens; names = s.names; word = s.word; sign = sign; line = s.line; comment = s.comment; brackets = s.brackets; goes_on = s.goes_on }

-- a = < > alone; a ! alone has no meaning
abbrev pub sign_alone : ℕ → Cutting → Step
sign_alone sign s =
    if nat_eq sign 61 then Ok (piece_pushed piece.Equals s) else
    if nat_eq sign 60 then Ok (piece_pushed piece.Below s) else
    if nat_eq sign 62 then Ok (piece_pushed piece.Above s) else
    Err reason.Character

abbrev pub sign_ended_by : Option ℕ → Cutting → Step
sign_ended_by None s = Ok s
sign_ended_by (Some sign) s = sign_alone sign (with_sign None s)

unfoldable pub sign_ended : Cutting → Step
sign_ended s = sign_ended_by s.sign s

-- a = after a sign: == != <= >=
abbrev pub sign_doubled : ℕ → Cutting → Step
sign_doubled sign s =
    if nat_eq sign 61 then Ok (piece_pushed piece.Same s) else
    if nat_eq sign 33 then Ok (piece_pushed piece.Other s) else
    if nat_eq sign 60 then Ok (piece_pushed piece.UpTo s) else
    Ok (piece_pushed piece.From s)

abbrev pub equals_after : Option ℕ → Cutting → Step
equals_after None s = Ok (with_sign (Some 61) s)
equals_after (Some sign) s = sign_doubled sign (with_sign None s)

unfoldable pub equals : Cutting → Step
equals s = equals_after s.sign s

abbrev pub line_advanced : Cutting → Cutting
line_advanced s = record { tokens = s.tokens; names = s.names; word = s.word; sign = s.sign; line = min (s.line + 1) (2 ^ 32 - 1); comment = s.comment; brackets = s.brackets; goes_on = s.goes_on }

-- the end of a line is a piece, but within brackets, after a comma, and where nothing stands on the
-- line
unfoldable pub line_ended : Cutting → Step
line_ended s = if nat_eq s.brackets 0 && not s.goes_on then Ok (line_advanced (piece_pushed piece.LineEnd s)) else Ok (line_advanced s)

abbrev pub opened : Cutting → Cutting
opened s = record { tokens = s.tokens; names = s.names; word = s.word; sign = s.sign; line = s.line; comment = s.comment; brackets = min (s.brackets + 1) (2 ^ 32 - 1); goes_on = s.goes_on }

abbrev pub bracket_closed : Cutting → Cutting
bracket_closed s = record { tokens = s.tokens; names = s.names; word = s.word; sign = s.sign; line = s.line; comment = s.comment; brackets = s.brackets - 1; goes_on = s.goes_on }

abbrev pub commented : Bool → Cutting → Cutting
commented comment s = record { tokens = s.tokens; names = s.names; word = s.word; sign = s.sign; line = s.line; comment = comment; brackets = s.brackets; goes_on = s.goes_on }

-- a byte that is no letter, digit or _, and no =
unfoldable pub single : ℕ → Cutting → Step
single b s =
    if nat_eq b 10 then line_ended s else
    if nat_eq b 32 then Ok s else
    if nat_eq b 9 then Ok s else
    if nat_eq b 13 then Ok s else
    if nat_eq b 35 then Ok (commented true s) else
    if nat_eq b 33 then Ok (with_sign (Some 33) s) else
    if nat_eq b 60 then Ok (with_sign (Some 60) s) else
    if nat_eq b 62 then Ok (with_sign (Some 62) s) else
    if nat_eq b 43 then Ok (piece_pushed piece.Plus s) else
    if nat_eq b 45 then Ok (piece_pushed piece.Minus s) else
    if nat_eq b 42 then Ok (piece_pushed piece.Star s) else
    if nat_eq b 44 then Ok (piece_pushed piece.Comma s) else
    if nat_eq b 40 then Ok (piece_pushed piece.Open (opened s)) else
    if nat_eq b 91 then Ok (piece_pushed piece.OpenIndex (opened s)) else
    if nat_eq b 41 then Ok (piece_pushed piece.Close (bracket_closed s)) else
    if nat_eq b 93 then Ok (piece_pushed piece.CloseIndex (bracket_closed s)) else
    Err reason.Character

-- ---- bytes

abbrev pub lettered : ℕ → Cutting → Cutting
lettered b s = record { tokens = s.tokens; names = s.names; word = s.word ++ b ∷ []; sign = s.sign; line = s.line; comment = s.comment; brackets = s.brackets; goes_on = s.goes_on }

-- a byte outside of comments
unfoldable pub fed : ℕ → Cutting → Step
fed b s =
    if is_word_byte b
    then on (sign_ended s) (λ t. Ok (lettered b t))
    else on (word_ended s) (λ t. if nat_eq b 61 then equals t else on (sign_ended t) (λ u. single b u))

-- a comment ends with its line
unfoldable pub feed : ℕ → Cutting → Step
feed b s = if s.comment then (if nat_eq b 10 then fed b (commented false s) else Ok s) else fed b s

-- the text ends: so does its last line
abbrev pub last_line_ended : Cutting → Step
last_line_ended s = if s.goes_on then Ok (piece_pushed piece.TextEnd s) else Ok (piece_pushed piece.TextEnd (piece_pushed piece.LineEnd s))

unfoldable pub text_finished : Cutting → Step
text_finished s = on (word_ended s) (λ t. on (sign_ended t) (λ u. last_line_ended u))

-- what is wrong is told with the line that it stands on
abbrev pub lined : ℕ → Step → (Cutting → Result Cutting ParseFault) → Result Cutting ParseFault
lined line (Err why) go = Err (record { line = line; reason = why })
lined line (Ok s) go = go s

unfoldable pub feed_all : List ℕ → Cutting → Result Cutting ParseFault
feed_all [] s = lined s.line (text_finished s) (λ t. Ok t)
feed_all (b ∷ bs) s = lined s.line (feed b s) (λ t. feed_all bs t)

abbrev pub nothing : Cutting
nothing = record { tokens = []; names = []; word = []; sign = None; line = 1; comment = false; brackets = 0; goes_on = true }

-- the pieces of a text, or what is wrong first
abbrev pub pieces_of : List ℕ → Result Cutting ParseFault
pieces_of bytes = feed_all bytes nothing
