-- A text grows by a part, and by what is added behind it.
use Rattle.std.proofs.Common.{◌≡◌, ◌∙◌, ◌+◌, ◌<◌, ℕ, List, [], ◌∷◌, ◌++◌, ap, subst, sym, append-nil, append_assoc, get_or, length, refl, take}
use Rattle.std.specs.List.{flat_map}
use Rattle.std.proofs.lemmas.List.{take_more}
use Rattle.std.proofs.lemmas.List.Concat.{flat_map-append}
use Rattle.options.specs.declared.form.Form.{Form}
use Rattle.places.specs.Maps.{AreDigits}
use Rattle.places.specs.Marks.{BeginsWithNoDigit, IsFirstNaming}
use Rattle.places.specs.Woven.{AreCut, IsNamedLine, IsPlaced, Piece, kept_of, marker, told_of}

pub next_bytes : (f : ℕ → List ℕ) (bytes : List ℕ) (index : ℕ) → index < length bytes
    → flat_map f (take (index + 1) bytes) ≡ flat_map f (take index bytes) ++ f (get_or bytes index 0)
next_bytes f bytes index below =
    ap (flat_map f) (take_more bytes index 0 below) ∙ flat_map-append f (take index bytes) (get_or bytes index 0 ∷ [])
    ∙ ap (λ (l : List ℕ). flat_map f (take index bytes) ++ l) (append-nil (f (get_or bytes index 0)))

flat_push : (f : Piece → List ℕ) (pieces : List Piece) (piece : Piece) → flat_map f (pieces ++ piece ∷ []) ≡ flat_map f pieces ++ f piece
flat_push f pieces piece = flat_map-append f pieces (piece ∷ []) ∙ ap (λ (l : List ℕ). flat_map f pieces ++ l) (append-nil (f piece))

pub kept_more : (pieces : List Piece) (piece : Piece) (rest : List ℕ) → kept_of pieces ++ (piece.kept ++ rest) ≡ kept_of (pieces ++ piece ∷ []) ++ rest
kept_more pieces piece rest =
    sym (append_assoc (kept_of pieces) piece.kept rest) ∙ ap (λ (l : List ℕ). l ++ rest) (sym (flat_push (λ p. p.kept) pieces piece))

pub told_more : (pieces : List Piece) (piece : Piece) (front named old mid new : List ℕ) → old ≡ told_of pieces → mid ≡ old ++ front → new ≡ mid ++ named
    → piece.told ≡ front ++ named → new ≡ told_of (pieces ++ piece ∷ [])
told_more pieces piece front named old mid new a b d told =
    d ∙ ap (λ (l : List ℕ). l ++ named) (b ∙ ap (λ (l : List ℕ). l ++ front) a) ∙ append_assoc (told_of pieces) front named
    ∙ ap (λ (l : List ℕ). told_of pieces ++ l) (sym told) ∙ sym (flat_push (λ p. p.told) pieces piece)

pub cut_more : (form : Form) (map : List ℕ) (pieces : List Piece) (piece : Piece) (rest : List ℕ) → AreCut form map pieces (piece.kept ++ rest) → IsPlaced form map piece
    → BeginsWithNoDigit rest → AreCut form map (pieces ++ piece ∷ []) rest
cut_more form map [] piece rest cut placed none = (placed, none, tt)
cut_more form map (p ∷ pieces) piece rest (first, free, others) placed none = (
  first,
  subst (λ (l : List ℕ). BeginsWithNoDigit l) (kept_more pieces piece rest) free,
  cut_more form map pieces piece rest others placed none,
)

-- the part that ends with the first marker of a text that names a line and the digits behind it
pub placed_piece : (form : Form) (map text front digits behind rest named : List ℕ) → IsFirstNaming (marker form) text front behind → behind ≡ digits ++ rest
    → AreDigits digits → IsNamedLine form map digits named
    → (piece : Piece) × IsPlaced form map piece × (text ≡ piece.kept ++ rest) × (piece.told ≡ front ++ named)
placed_piece form map text front digits behind rest named at is are names = (
  record { kept = kept; told = front ++ named },
  record {
    front = front;
    digits = digits;
    named = named;
    ends = refl;
    free = at.names.free;
    first = λ a b names. at.first a (b ++ rest)
        (record {
          parts = text_is ∙ ap (λ (l : List ℕ). l ++ rest) names.parts ∙ append_assoc a (marker form ++ b) rest ∙ ap (λ (l : List ℕ). a ++ l) (append_assoc (marker form) b rest);
          free = names.free;
        });
    are = are;
    names = names;
    told_is = refl;
  },
  text_is,
  refl,
)
  where
    kept : List ℕ
    kept = front ++ (marker form ++ digits)

    text_is : text ≡ kept ++ rest
    text_is =
        at.names.parts ∙ ap (λ (l : List ℕ). front ++ (marker form ++ l)) is
        ∙ sym (append_assoc front (marker form ++ digits) rest ∙ ap (λ (l : List ℕ). front ++ l) (append_assoc (marker form) digits rest))
