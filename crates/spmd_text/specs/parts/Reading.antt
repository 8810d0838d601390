-- How a text is read: the reader before and after, and what it finds.
use Rattle.std.specs.Prelude.{◌≡◌, ◌⊎◌, ℕ, ℤ, ◌≤◌, true, false, List, [], ◌∷◌, length, Option, Some, None}
use Rattle.spmd_tree.specs.declared.tree.Operator.{Operator}
use Rattle.spmd_tree.specs.declared.tree.Comparison.{Comparison}
use Rattle.spmd_tree.specs.declared.tree.Expression.{Expression}
use Rattle.spmd_tree.specs.declared.tree.Expression.TheVariants as form
use Rattle.spmd_text.specs.declared.fault.ParseReason.{ParseReason}
use Rattle.spmd_text.specs.declared.fault.ParseReason.TheVariants.{Memory}
use Rattle.spmd_text.specs.declared.parser.Parser.{Parser}
use Rattle.spmd_text.specs.declared.piece.Piece.{Piece}
use Rattle.spmd_text.specs.declared.piece.Piece.TheVariants as piece
use Rattle.spmd_text.specs.declared.piece.Token.{Token}
use Rattle.spmd_text.specs.Spelling.{after_expression, is_condition}
use Rattle.spmd_text.specs.parts.Joints.{stops}
use Rattle.spmd_text.specs.Joints.{closeness}
use Rattle.spmd_text.specs.Limits.{IsTreeWithin}

-- ---- the reader

abbrev pub next_of : Option ParseReason → List Token → Piece
next_of (Some why) ts = piece.TextEnd
next_of None [] = piece.TextEnd
next_of None (t ∷ ts) = t.piece

-- the piece that is read next; the end of the text, once something is wrong
abbrev pub next : Parser → Piece
next s = next_of s.fault s.rest.now

-- what is left behind the next piece
abbrev pub behind_next : List Token → List Token
behind_next [] = []
behind_next (t ∷ ts) = ts

-- the fault that was noted first
abbrev pub first_noted : Option ParseReason → ParseReason → Option ParseReason
first_noted None why = Some why
first_noted (Some first) why = Some first

-- a fault that was noted stays the first
abbrev pub Sticks : Parser → Parser → Type 0
Sticks old new = (why : ParseReason) → old.fault ≡ Some why → new.fault ≡ Some why

-- the reader is as before, but for what is left and the fault; no piece comes back
pub record Goes (old new : Parser) : Type 0 where
  pub frame : new ≡ record old { rest = new.rest; fault = new.fault }
  pub shorter : length new.rest.now ≤ length old.rest.now
  pub sticks : Sticks old new

-- nothing is wrong, and these pieces are left
pub record StandsBefore (s : Parser) (rest : List Token) : Type 0 where
  pub sound : s.fault ≡ None
  pub left : s.rest.now ≡ rest

-- it was read up to these pieces; or memory ran out
abbrev pub Finds : Parser → List Token → Type 0 → Type 0
Finds new rest P = (new.fault ≡ Some Memory) ⊎ (StandsBefore new rest × P)

-- ---- what is found

-- a tree without the places of its boxes
pub data Form : Type 0 where
  literal : ℤ → Form
  null : Form
  rank : Form
  size : Form
  named : ℕ → Form
  binary : Operator → Form → Form → Form
  compare : Comparison → Form → Form → Form
  negative : Form → Form
  grouped : Form → Form
  negation : Form → Form
  both : Form → Form → Form
  either : Form → Form → Form
  choice : Form → Form → Form → Form

abbrev pub syntax_form : Expression → Form
syntax_form (form.Literal n) = literal n
syntax_form form.Null = null
syntax_form form.Rank = rank
syntax_form form.Size = size
syntax_form (form.Named k) = named k
syntax_form (form.Binary' o p a q b) = binary o (syntax_form a) (syntax_form b)
syntax_form (form.Compare' c p a q b) = compare c (syntax_form a) (syntax_form b)
syntax_form (form.Negative' p a) = negative (syntax_form a)
syntax_form (form.Grouped' p a) = grouped (syntax_form a)
syntax_form (form.Negation' p a) = negation (syntax_form a)
syntax_form (form.Both' p a q b) = both (syntax_form a) (syntax_form b)
syntax_form (form.Either' p a q b) = either (syntax_form a) (syntax_form b)
syntax_form (form.Choice' p c q a s b) = choice (syntax_form c) (syntax_form a) (syntax_form b)

-- the trees differ at most in where their boxes stand
abbrev pub Alike : Expression → Expression → Type 0
Alike a b = syntax_form a ≡ syntax_form b

-- ---- what is ahead

-- nothing is wrong, and what is left begins with this tree, which is within the limits; these
-- pieces are left behind it
pub record Ahead (s : Parser) (depth : ℕ) (e : Expression) (rest : List Token) : Type 0 where
  pub sound : s.fault ≡ None
  pub spelled : after_expression e (Some s.rest.now) ≡ Some rest
  pub within : IsTreeWithin depth s.in_parameter e

-- the tree may stand where joints bind at least so close, and no joint follows that does; where a
-- number has to stand, it is no condition
pub record MayStandAmongJoints (least : ℕ) (e : Expression) (rest : List Token) : Type 0 where
  pub close : least ≤ closeness e
  pub number : 4 ≤ least → is_condition e ≡ false
  pub ends : stops least rest ≡ true
