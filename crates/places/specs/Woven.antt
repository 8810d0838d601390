-- A text with the places of the lines that it names.
use Rattle.std.specs.Prelude.{◌≡◌, ◌⊎◌, ◌≤◌, ◌==◌, ◌||◌, ℕ, length, nat_lt, if◌then◌else◌, Bool, true, false, List, [], ◌∷◌, ◌++◌, Option, Some, None, codes}
use Rattle.std.specs.List.{flat_map}
use Rattle.options.specs.declared.form.Form.{Form}
use Rattle.options.specs.declared.form.Form.TheVariants as forms
use Rattle.places.specs.Maps.{AreDigits, HasEntry}
use Rattle.places.specs.Marks.{BeginsWithNoDigit, EndsInName, IsAround, IsNaming, Lacks, NamesNone}
use Rattle.places.specs.Sources.{source_of}

-- what stands before the number of a line that is named
abbrev pub marker : Form → List ℕ
marker forms.Object = codes "\"line\":"
marker forms.Brief = codes "line "
marker forms.Whole = codes "line "
marker forms.Graph = codes "line "
marker forms.Chart = codes "line "
marker forms.Picture = codes "line "
marker forms.Page = codes "line "
marker forms.Messages = codes "line "

-- what stands for a byte in a text, in quotes, or in a picture or a page: a question mark where it
-- isn't printable ASCII
abbrev pub plain_byte : ℕ → List ℕ
plain_byte byte = if nat_lt byte 32 || nat_lt 126 byte then 63 ∷ [] else byte ∷ []

abbrev pub quoted_byte : ℕ → List ℕ
quoted_byte byte = if byte == 34 || byte == 92 then 92 ∷ byte ∷ [] else plain_byte byte

abbrev pub drawn_byte : ℕ → List ℕ
drawn_byte byte = if byte == 38 then codes "&amp;" else if byte == 60 then codes "&lt;" else if byte == 62 then codes "&gt;" else plain_byte byte

-- what stands for a byte in a text of this form
abbrev pub shown : Form → ℕ → List ℕ
shown forms.Object = quoted_byte
shown forms.Graph = quoted_byte
shown forms.Picture = drawn_byte
shown forms.Page = drawn_byte
shown forms.Brief = plain_byte
shown forms.Whole = plain_byte
shown forms.Chart = plain_byte
shown forms.Messages = plain_byte

-- what stands before the words of a place, and behind them
abbrev pub place_opening : Form → List ℕ
place_opening forms.Object = codes ",\"place\":\""
place_opening _ = codes " ("

abbrev pub closing : Form → List ℕ
closing forms.Object = codes "\""
closing _ = codes ")"

-- what a text of this form tells of the words of a map: all in an object, and in another what
-- stands before the first mark ` < `, behind which callers stand
abbrev pub IsToldOfWords : Form → List ℕ → List ℕ → Type 0
IsToldOfWords forms.Object words told = told ≡ words
IsToldOfWords _ words told = (Lacks (codes " < ") words × (told ≡ words)) ⊎ ((callers : List ℕ) × IsAround (codes " < ") words told callers)

-- what is added behind the number of a line of which these words are told
abbrev pub place_text : Form → List ℕ → List ℕ
place_text form words = place_opening form ++ (flat_map (shown form) words ++ closing form)

-- a part of the text, and what is told in its place
pub record Piece : Type 0 where
  pub kept : List ℕ
  pub told : List ℕ

-- what is added behind the digits of a line's number: the place that the map has for that line, or
-- nothing where it has none
abbrev pub IsSaid : Form → List ℕ → List ℕ → List ℕ → Type 0
IsSaid form map digits added =
    ((words : List ℕ) × (short : List ℕ) × HasEntry map digits words × IsToldOfWords form words short × (added ≡ place_text form short))
    ⊎ (((words : List ℕ) → HasEntry map digits words → ⊥) × (added ≡ []))

-- what names a line in a message: its source, or where none is known its number
abbrev pub source_text : Option (List ℕ) → List ℕ → List ℕ
source_text (Some source) digits = flat_map plain_byte source
source_text None digits = marker forms.Messages ++ digits

-- so, by the words that the map has for the line
abbrev pub IsAtSource : List ℕ → List ℕ → List ℕ → Type 0
IsAtSource map digits named =
    ((words : List ℕ) × HasEntry map digits words × (named ≡ source_text (source_of words) digits))
    ⊎ (((words : List ℕ) → HasEntry map digits words → ⊥) × (named ≡ source_text None digits))

-- in messages a source stands in place of the number of a line
abbrev pub is_in_place : Form → Bool
is_in_place forms.Messages = true
is_in_place _ = false

abbrev pub IsNamedIf : Bool → Form → List ℕ → List ℕ → List ℕ → Type 0
IsNamedIf true form map digits named = IsAtSource map digits named
IsNamedIf false form map digits named = (added : List ℕ) × IsSaid form map digits added × (named ≡ marker form ++ (digits ++ added))

-- what is told of the line whose number has these digits
abbrev pub IsNamedLine : Form → List ℕ → List ℕ → List ℕ → Type 0
IsNamedLine form = IsNamedIf (is_in_place form) form

-- the part ends with the first marker in it that is no part of a name, and the digits behind that,
-- and in their place it is told what names their line
pub record IsPlaced (form : Form) (map : List ℕ) (piece : Piece) : Type 0 where
  pub front : List ℕ
  pub digits : List ℕ
  pub named : List ℕ
  pub ends : piece.kept ≡ front ++ (marker form ++ digits)
  pub free : EndsInName front → ⊥
  pub first : (a b : List ℕ) → IsNaming (marker form) piece.kept a b → length front ≤ length a
  pub are : AreDigits digits
  pub names : IsNamedLine form map digits named
  pub told_is : piece.told ≡ front ++ named

abbrev pub kept_of : List Piece → List ℕ
kept_of pieces = flat_map (λ piece. piece.kept) pieces

abbrev pub told_of : List Piece → List ℕ
told_of pieces = flat_map (λ piece. piece.told) pieces

-- each part is such a part, and behind it, in the others and the rest, stands no digit first
abbrev pub AreCut : Form → List ℕ → List Piece → List ℕ → Type 0
AreCut form map [] rest = Unit {0}
AreCut form map (piece ∷ pieces) rest = IsPlaced form map piece × BeginsWithNoDigit (kept_of pieces ++ rest) × AreCut form map pieces rest

-- The one text is cut behind each number of a line, and the other is the same with the places told
-- there.
pub record IsWoven (form : Form) (map plain told : List ℕ) : Type 0 where
  pub pieces : List Piece
  pub rest : List ℕ
  pub cut : AreCut form map pieces rest
  pub last : NamesNone (marker form) rest
  pub plain_is : plain ≡ kept_of pieces ++ rest
  pub told_is : told ≡ told_of pieces ++ rest

-- The text with all its places. Strings of an object name lines as labels of a graph do, with the
-- same quoting: they come first, then its members.
abbrev pub HasPlaces : Form → List ℕ → List ℕ → List ℕ → Type 0
HasPlaces forms.Object map plain told = (strings : List ℕ) × IsWoven forms.Graph map plain strings × IsWoven forms.Object map strings told
HasPlaces form map plain told = IsWoven form map plain told
