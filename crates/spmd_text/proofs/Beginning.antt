-- How a tree whose parts no joint joins is read.
use Rattle.std.proofs.Common.{◌≡◌, ℕ, ◌≤◌, Bool, true, false, nat_le, List, ◌∷◌, Option, Some, None, refl, ap, sym, ◌∙◌, arith, if◌then◌else◌}
use Rattle.std.proofs.lemmas.Bool.{false≢true}
use Rattle.std.proofs.lemmas.Bool.Decides.{nat_tests}
use Rattle.spmd_tree.specs.declared.tree.Expression.{Expression}
use Rattle.spmd_tree.specs.declared.tree.Expression.TheVariants as form
use Rattle.spmd_text.specs.declared.expressions.Beginning.{Beginning}
use Rattle.spmd_text.specs.declared.expressions.Beginning.TheVariants as beginning
use Rattle.spmd_text.specs.declared.joints.Prefix.TheVariants as prefix
use Rattle.spmd_text.specs.declared.joints.Row.{Row}
use Rattle.spmd_text.specs.declared.parser.Parser.{Parser}
use Rattle.spmd_text.specs.declared.piece.Piece.{Piece}
use Rattle.spmd_text.specs.declared.piece.Token.{Token}
use Rattle.spmd_text.specs.Spelling.{after_piece, after_expression}
use Rattle.spmd_text.specs.Joints.{closeness}
use Rattle.spmd_text.specs.Limits.{parts_in_row}
use Rattle.spmd_text.specs.parts.Growing.{is_operand, opening_piece, begun, beginning_of, first_close, leaf_of, IsJointRow, is_lone_tree}
use Rattle.spmd_text.specs.parts.Reading.{next, next_of, Ahead}
use Rattle.spmd_text.proofs.Pieces.{taken}

if_le : (A : Type 0) (a b : ℕ) (x y : A) → a ≤ b → (if nat_le a b then x else y) ≡ x
if_le A a b x y h = let holds : nat_le a b ≡ true = grind (arith, nat_tests) in ap (λ (t : Bool). if t then x else y) holds

pub begun_of : (a : Expression) (least : ℕ) → is_operand a ≡ true → least ≤ closeness a → beginning_of (opening_piece a) least ≡ begun a
begun_of (form.Binary' o p a q b) least e h = absurd (false≢true e)
begun_of (form.Compare' c p a q b) least e h = absurd (false≢true e)
begun_of (form.Both' p a q b) least e h = absurd (false≢true e)
begun_of (form.Either' p a q b) least e h = absurd (false≢true e)
begun_of (form.Negation' p a) least e h = if_le Beginning least 2 (beginning.Prefix prefix.Not) beginning.Leaf h
begun_of (form.Choice' p c q a s b) least e h = if_le Beginning least 4 beginning.Choice beginning.Leaf h
begun_of a least e h = refl

first_close_of : (a : Expression) → is_operand a ≡ true → first_close (begun a) ≡ closeness a
first_close_of (form.Binary' o p a q b) e = absurd (false≢true e)
first_close_of (form.Compare' c p a q b) e = absurd (false≢true e)
first_close_of (form.Both' p a q b) e = absurd (false≢true e)
first_close_of (form.Either' p a q b) e = absurd (false≢true e)
first_close_of a e = refl

parts_of : (a : Expression) → is_operand a ≡ true → parts_in_row a ≡ 1
parts_of (form.Binary' o p a q b) e = absurd (false≢true e)
parts_of (form.Compare' c p a q b) e = absurd (false≢true e)
parts_of (form.Both' p a q b) e = absurd (false≢true e)
parts_of (form.Either' p a q b) e = absurd (false≢true e)
parts_of a e = refl

alone_of : (a : Expression) → is_operand a ≡ true → is_lone_tree a ≡ false
alone_of (form.Binary' o p a q b) e = absurd (false≢true e)
alone_of a e = refl

-- the row that a first part begins
pub first_row : (a : Expression) (b : Beginning) (row : Row) → is_operand a ≡ true → b ≡ begun a → row ≡ record { binding = first_close b; joints = 0; lone = false } → IsJointRow row a
first_row a b row f e is = record {
  close = ap (λ (r : Row). r.binding) is ∙ (ap first_close e ∙ first_close_of a f);
  many = omega (arith, ap (λ (r : Row). r.joints) is, parts_of a f);
  alone = ap (λ (r : Row). r.lone) is ∙ sym (alone_of a f);
}

leaf_back : (a : Expression) → is_operand a ≡ true → begun a ≡ beginning.Leaf → leaf_of (opening_piece a) ≡ Some a
leaf_back (form.Binary' o p a q b) e f = absurd (false≢true e)
leaf_back (form.Compare' c p a q b) e f = absurd (false≢true e)
leaf_back (form.Both' p a q b) e f = absurd (false≢true e)
leaf_back (form.Either' p a q b) e f = absurd (false≢true e)
leaf_back (form.Negative' p a) e f = absurd cc
leaf_back (form.Grouped' p a) e f = absurd cc
leaf_back (form.Negation' p a) e f = absurd cc
leaf_back (form.Choice' p c q a s b) e f = absurd cc
leaf_back a e f = refl

leaf_spelled : (a : Expression) (here rest : List Token) → is_operand a ≡ true → begun a ≡ beginning.Leaf → after_expression a (Some here) ≡ Some rest → after_piece (opening_piece a) (Some here) ≡ Some rest
leaf_spelled (form.Binary' o p a q b) here rest e f is = absurd (false≢true e)
leaf_spelled (form.Compare' c p a q b) here rest e f is = absurd (false≢true e)
leaf_spelled (form.Both' p a q b) here rest e f is = absurd (false≢true e)
leaf_spelled (form.Either' p a q b) here rest e f is = absurd (false≢true e)
leaf_spelled (form.Negative' p a) here rest e f is = absurd cc
leaf_spelled (form.Grouped' p a) here rest e f is = absurd cc
leaf_spelled (form.Negation' p a) here rest e f is = absurd cc
leaf_spelled (form.Choice' p c q a s b) here rest e f is = absurd cc
leaf_spelled a here rest e f is = is

-- the piece that was taken is the next one
pub next_taken : (s : Parser) (p : Piece) (here rest : List Token) → s.fault ≡ None → s.rest.now ≡ here → after_piece p (Some here) ≡ Some rest → next s ≡ p
next_taken s p here rest sound e is =
    let t = taken p here rest is in
    ap (λ (f : Option _). next_of f s.rest.now) sound ∙ (ap (next_of None) (e ∙ t.here_is) ∙ t.piece_so)

pub record LeafAt (s : Parser) (a : Expression) (rest : List Token) : Type 0 where
  pub found : leaf_of (next s) ≡ Some a
  pub token : Token
  pub here : s.rest.now ≡ token ∷ rest

-- a tree of one piece is the next piece
pub leaf_at : (s : Parser) (depth : ℕ) (a : Expression) (rest : List Token) → Ahead s depth a rest → is_operand a ≡ true → begun a ≡ beginning.Leaf → LeafAt s a rest
leaf_at s depth a rest ahead e f =
    let is = leaf_spelled a s.rest.now rest e f ahead.spelled in
    let t = taken (opening_piece a) s.rest.now rest is in
    record {
      found = ap leaf_of (next_taken s (opening_piece a) s.rest.now rest ahead.sound refl is) ∙ leaf_back a e f;
      token = t.token;
      here = t.here_is;
    }
