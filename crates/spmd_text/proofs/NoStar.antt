-- No value begins with a star.
use Rattle.std.proofs.Common.{◌≡◌, Bool, true, false, List, Some, None, refl, ap, sym, ◌∙◌}
use Rattle.spmd_tree.specs.declared.tree.Expression.{Expression}
use Rattle.spmd_tree.specs.declared.tree.Expression.TheVariants as form
use Rattle.spmd_text.specs.declared.piece.Word.TheVariants as word
use Rattle.spmd_text.specs.declared.piece.Piece.{Piece}
use Rattle.spmd_text.specs.declared.piece.Piece.TheVariants as piece
use Rattle.spmd_text.specs.declared.piece.Token.{Token}
use Rattle.spmd_text.specs.Spelling.{Rest, after_piece, after_expression, after_value, piece_begins, comparison_piece, is_piece, only, operator_piece}
use Rattle.spmd_text.proofs.Pieces.{taken}
use Rattle.spmd_text.proofs.Strict.{expression_strict}

-- something was left before, where something is left behind
pub left_before : (F : Rest → Rest) → F None ≡ None → (z : Rest) (rest : List Token) → F z ≡ Some rest → (before : List Token) × (z ≡ Some before)
left_before F strict None rest e = absurd (let never : None ≡ Some rest = sym strict ∙ e in cc)
left_before F strict (Some before) rest e = (before, refl)

pub only_left : (b : Bool) (z : Rest) (rest : List Token) → only b z ≡ Some rest → (b ≡ true) × (z ≡ Some rest)
only_left true z rest e = (refl, e)
only_left false z rest e = absurd cc

no_star : (p : Piece) → is_piece piece.Star p ≡ false → (here rest : List Token) → after_piece p (Some here) ≡ Some rest → piece_begins piece.Star (Some here) ≡ false
no_star p other here rest e =
    let t = taken p here rest e in
    ap (λ (xs : List Token). piece_begins piece.Star (Some xs)) t.here_is ∙ (ap (is_piece piece.Star) t.piece_so ∙ other)

-- of two parts with a piece between them the first one is left before
first_left : (a b : Expression) (p : Piece) (fit : Bool) (here rest : List Token)
    → only fit (after_expression b (after_piece p (after_expression a (Some here)))) ≡ Some rest → (between : List Token) × (after_expression a (Some here) ≡ Some between)
first_left a b p fit here rest e =
    let whole = only_left fit (after_expression b (after_piece p (after_expression a (Some here)))) rest e in
    let second = left_before (after_expression b) (expression_strict b) (after_piece p (after_expression a (Some here))) rest whole.1 in
    left_before (after_piece p) refl (after_expression a (Some here)) second.0 second.1

-- what stands behind a first piece
first_piece : (a : Expression) (p : Piece) (here rest : List Token) → after_expression a (after_piece p (Some here)) ≡ Some rest → (between : List Token) × (after_piece p (Some here) ≡ Some between)
first_piece a p here rest e = left_before (after_expression a) (expression_strict a) (after_piece p (Some here)) rest e

pub not_star : (e : Expression) (here rest : List Token) → after_expression e (Some here) ≡ Some rest → piece_begins piece.Star (Some here) ≡ false
not_star (form.Literal n) here rest e = no_star (piece.Number n) refl here rest e
not_star form.Null here rest e = no_star (piece.Word word.Null) refl here rest e
not_star form.Rank here rest e = no_star (piece.Word word.Rank) refl here rest e
not_star form.Size here rest e = no_star (piece.Word word.Size) refl here rest e
not_star (form.Named k) here rest e = no_star (piece.Name k) refl here rest e
not_star (form.Binary' o p a q b) here rest e = let f = first_left a b (operator_piece o) _ here rest e in not_star a here f.0 f.1
not_star (form.Compare' o p a q b) here rest e = let f = first_left a b (comparison_piece o) _ here rest e in not_star a here f.0 f.1
not_star (form.Negative' p a) here rest e =
    let f = first_piece a piece.Minus here rest (only_left _ _ rest e).1 in no_star piece.Minus refl here f.0 f.1
not_star (form.Grouped' p a) here rest e =
    let inner = left_before (after_piece piece.Close) refl (after_expression a (after_piece piece.Open (Some here))) rest e in
    let f = first_piece a piece.Open here inner.0 inner.1 in no_star piece.Open refl here f.0 f.1
not_star (form.Negation' p a) here rest e =
    let f = first_piece a (piece.Word word.Not) here rest (only_left _ _ rest e).1 in no_star (piece.Word word.Not) refl here f.0 f.1
not_star (form.Both' p a q b) here rest e = let f = first_left a b (piece.Word word.And) _ here rest e in not_star a here f.0 f.1
not_star (form.Either' p a q b) here rest e = let f = first_left a b (piece.Word word.Or) _ here rest e in not_star a here f.0 f.1
not_star (form.Choice' p c q a s b) here rest e =
    let whole = only_left _ _ rest e in
    let third = left_before (after_expression b) (expression_strict b) (after_piece (piece.Word word.Else) (after_expression a (after_piece (piece.Word word.Then) (after_expression c (after_piece (piece.Word word.If) (Some here)))))) rest whole.1 in
    let second = left_before (after_piece (piece.Word word.Else)) refl (after_expression a (after_piece (piece.Word word.Then) (after_expression c (after_piece (piece.Word word.If) (Some here))))) third.0 third.1 in
    let first = left_before (after_expression a) (expression_strict a) (after_piece (piece.Word word.Then) (after_expression c (after_piece (piece.Word word.If) (Some here)))) second.0 second.1 in
    let condition = left_before (after_piece (piece.Word word.Then)) refl (after_expression c (after_piece (piece.Word word.If) (Some here))) first.0 first.1 in
    let f = first_piece c (piece.Word word.If) here condition.0 condition.1 in
    no_star (piece.Word word.If) refl here f.0 f.1

pub value_not_star : (e : Expression) (here rest : List Token) → after_value e (Some here) ≡ Some rest → piece_begins piece.Star (Some here) ≡ false
value_not_star e here rest f = not_star e here rest (only_left _ _ rest f).1
