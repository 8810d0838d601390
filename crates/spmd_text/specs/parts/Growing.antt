-- A tree is read from its first part on: that part, joined with what stands behind it, becomes the
-- tree.
use Rattle.std.specs.Prelude.{◌≡◌, ℕ, ◌+◌, ◌≤◌, Bool, true, false, nat_le, if◌then◌else◌, List, Option, Some, None}
use Rattle.spmd_tree.specs.declared.tree.Expression.{Expression}
use Rattle.spmd_tree.specs.declared.tree.Expression.TheVariants as form
use Rattle.spmd_text.specs.declared.expressions.Beginning.{Beginning}
use Rattle.spmd_text.specs.declared.expressions.Beginning.TheVariants as beginning
use Rattle.spmd_text.specs.declared.joints.Joint.{Joint}
use Rattle.spmd_text.specs.declared.joints.Prefix.{Prefix}
use Rattle.spmd_text.specs.declared.joints.Prefix.TheVariants as prefix
use Rattle.spmd_text.specs.declared.joints.Row.{Row}
use Rattle.spmd_text.specs.declared.parser.Parser.{Parser}
use Rattle.spmd_text.specs.declared.piece.Word.TheVariants as word
use Rattle.spmd_text.specs.declared.piece.Piece.{Piece}
use Rattle.spmd_text.specs.declared.piece.Piece.TheVariants as piece
use Rattle.spmd_text.specs.declared.piece.Token.{Token}
use Rattle.spmd_text.specs.Spelling.{after_piece, after_expression, is_condition}
use Rattle.spmd_text.specs.parts.Joints.{is_lone_operator, Place, joined_parts, joint_piece, may_join, stops}
use Rattle.spmd_text.specs.Joints.{closeness}
use Rattle.spmd_text.specs.Limits.{IsTreeWithin, parts_in_row}
use Rattle.spmd_text.specs.parts.Reading.{Alike}

-- ---- how an expression begins

-- a tree whose parts no joint joins
abbrev pub is_operand : Expression → Bool
is_operand (form.Binary' o p a q b) = false
is_operand (form.Compare' c p a q b) = false
is_operand (form.Both' p a q b) = false
is_operand (form.Either' p a q b) = false
is_operand _ = true

-- the piece that such a tree begins with
abbrev pub opening_piece : Expression → Piece
opening_piece (form.Literal n) = piece.Number n
opening_piece form.Null = piece.Word word.Null
opening_piece form.Rank = piece.Word word.Rank
opening_piece form.Size = piece.Word word.Size
opening_piece (form.Named k) = piece.Name k
opening_piece (form.Negative' p a) = piece.Minus
opening_piece (form.Grouped' p a) = piece.Open
opening_piece (form.Negation' p a) = piece.Word word.Not
opening_piece (form.Choice' p c q a s b) = piece.Word word.If
opening_piece _ = piece.TextEnd

-- how such a tree begins
abbrev pub begun : Expression → Beginning
begun (form.Negative' p a) = beginning.Prefix prefix.Minus
begun (form.Grouped' p a) = beginning.Prefix prefix.Parentheses
begun (form.Negation' p a) = beginning.Prefix prefix.Not
begun (form.Choice' p c q a s b) = beginning.Choice
begun _ = beginning.Leaf

-- how an expression begins whose joints bind at least so close
abbrev pub beginning_of : Piece → ℕ → Beginning
beginning_of piece.Minus least = beginning.Prefix prefix.Minus
beginning_of piece.Open least = beginning.Prefix prefix.Parentheses
beginning_of (piece.Word word.Not) least = if nat_le least 2 then beginning.Prefix prefix.Not else beginning.Leaf
beginning_of (piece.Word word.If) least = if nat_le least 4 then beginning.Choice else beginning.Leaf
beginning_of _ least = beginning.Leaf

-- how close what began so stands together
abbrev pub first_close : Beginning → ℕ
first_close (beginning.Prefix prefix.Not) = 2
first_close beginning.Choice = 4
first_close _ = 6

-- how close joints bind at least behind the prefix
abbrev pub inside : Prefix → ℕ → ℕ
inside prefix.Not least = 2
inside prefix.Minus least = 6
inside prefix.Parentheses least = if nat_le 4 least then 4 else 0

-- the tree of one piece
abbrev pub leaf_of : Piece → Option Expression
leaf_of (piece.Number n) = Some (form.Literal n)
leaf_of (piece.Name k) = Some (form.Named k)
leaf_of (piece.Word word.Null) = Some form.Null
leaf_of (piece.Word word.Size) = Some form.Size
leaf_of (piece.Word word.Rank) = Some form.Rank
leaf_of _ = None

-- a part with what stands before it, or around it
abbrev pub enclosed : Prefix → Place → Expression → Expression
enclosed prefix.Not p a = form.Negation' p a
enclosed prefix.Minus p a = form.Negative' p a
enclosed prefix.Parentheses p a = form.Grouped' p a

-- what stands behind the part behind a prefix
abbrev pub ends_prefix : Prefix → Expression → List Token → List Token → Type 0
ends_prefix prefix.Not a here rest = (here ≡ rest) × (is_condition a ≡ true)
ends_prefix prefix.Minus a here rest = (here ≡ rest) × (is_condition a ≡ false)
ends_prefix prefix.Parentheses a here rest = after_piece piece.Close (Some here) ≡ Some rest

-- such a tree may stand first where joints bind at least so close, and no joint follows that binds
-- as close as it does; where a number has to stand, it is no condition
pub record MayBegin (least : ℕ) (a : Expression) (rest : List Token) : Type 0 where
  pub close : least ≤ closeness a
  pub number : 4 ≤ least → is_condition a ≡ false
  pub ends : stops (closeness a) rest ≡ true

-- ---- how it goes on

abbrev pub is_lone_tree : Expression → Bool
is_lone_tree (form.Binary' o p a q b) = is_lone_operator o
is_lone_tree _ = false

-- the row that the tree ends with
pub record IsJointRow (row : Row) (a : Expression) : Type 0 where
  pub close : row.binding ≡ closeness a
  pub many : row.joints + 1 ≡ parts_in_row a
  pub alone : row.lone ≡ is_lone_tree a

-- a joint and what stands right of it, behind a tree that it may be joined with
pub record Joining (depth : ℕ) (in_parameter : Bool) (a : Expression) (here : List Token) : Type 0 where
  pub by : Joint
  pub left_place : Place
  pub right_place : Place
  pub right : Expression
  pub next : List Token
  pub behind : List Token
  pub begins : after_piece (joint_piece by) (Some here) ≡ Some next
  pub spelled : after_expression right (Some next) ≡ Some behind
  pub joins : may_join by a right ≡ true
  pub within : IsTreeWithin depth in_parameter right
  pub narrow : parts_in_row (joined_parts by left_place a right_place right) ≤ 256

-- both parts with the joint between them
abbrev pub whole : {depth : ℕ} {in_parameter : Bool} {a : Expression} {here : List Token} → Joining depth in_parameter a here → Expression
whole {depth} {in_parameter} {a} {here} part = joined_parts part.by part.left_place a part.right_place part.right

-- the tree, joined with what stands here, becomes `e` before these pieces
pub data Becomes (depth : ℕ) (in_parameter : Bool) (e : Expression) (rest : List Token) : Expression → List Token → Type 0 where
  done : {a : Expression} {here : List Token} → a ≡ e → here ≡ rest → Becomes depth in_parameter e rest a here
  more : {a : Expression} {here : List Token} → (part : Joining depth in_parameter a here) → Becomes depth in_parameter e rest (whole part) part.behind → Becomes depth in_parameter e rest a here

-- what was read so far, which ends with this row, becomes `e`, where joints bind at least so close
pub record Growing (s : Parser) (left : Expression) (row : Row) (least : ℕ) (depth : ℕ) (e : Expression) (rest : List Token) : Type 0 where
  pub sound : s.fault ≡ None
  pub tree : Expression
  pub alike : Alike left tree
  pub row_so : IsJointRow row tree
  pub grows : Becomes depth s.in_parameter e rest tree s.rest.now
  pub close : least ≤ closeness e
  pub ends : stops least rest ≡ true
