-- What inner functions promise one another, beside `specs/Joints.antt`.
use Rattle.std.specs.Prelude.{ℕ, Bool, true, false, ◌&&◌, nat_eq, nat_le, nat_lt, List, [], ◌∷◌, Option, Some, None, if◌then◌else◌}
pub use Rattle.spmd_tree.specs.Plain.{Place}
use Rattle.spmd_tree.specs.declared.tree.Operator.{Operator}
use Rattle.spmd_tree.specs.declared.tree.Operator.TheVariants as operator
use Rattle.spmd_tree.specs.declared.tree.Comparison.TheVariants as comparison
use Rattle.spmd_tree.specs.declared.tree.Expression.{Expression}
use Rattle.spmd_tree.specs.declared.tree.Expression.TheVariants as form
use Rattle.spmd_text.specs.declared.piece.Word.TheVariants as word
use Rattle.spmd_text.specs.declared.piece.Piece.{Piece}
use Rattle.spmd_text.specs.declared.piece.Piece.TheVariants as piece
use Rattle.spmd_text.specs.declared.piece.Token.{Token}
use Rattle.spmd_text.specs.declared.joints.Joint.{Joint}
use Rattle.spmd_text.specs.declared.joints.Joint.TheVariants as joint
use Rattle.spmd_text.specs.Spelling.{operator_piece, comparison_piece, fits_binding, left_of, right_of}
use Rattle.spmd_text.specs.Joints.{closeness_of}

-- what the piece joins two parts by
abbrev pub joint_of : Piece → Option Joint
joint_of (piece.Word word.Or) = Some joint.Or
joint_of (piece.Word word.And) = Some joint.And
joint_of (piece.Word word.Div) = Some (joint.Between operator.Quotient)
joint_of (piece.Word word.Mod) = Some (joint.Between operator.Remainder)
joint_of (piece.Word word.Shl) = Some (joint.Between operator.Left)
joint_of (piece.Word word.Shr) = Some (joint.Between operator.Right)
joint_of (piece.Word word.Xor) = Some (joint.Between operator.Exclusive)
joint_of piece.Same = Some (joint.Compared comparison.Same)
joint_of piece.Other = Some (joint.Compared comparison.Other)
joint_of piece.Below = Some (joint.Compared comparison.Below)
joint_of piece.UpTo = Some (joint.Compared comparison.UpTo)
joint_of piece.Above = Some (joint.Compared comparison.Above)
joint_of piece.From = Some (joint.Compared comparison.From)
joint_of piece.Plus = Some (joint.Between operator.Plus)
joint_of piece.Minus = Some (joint.Between operator.Minus)
joint_of piece.Star = Some (joint.Between operator.Times)
joint_of _ = None

-- the piece that a joint is written as
abbrev pub joint_piece : Joint → Piece
joint_piece joint.Or = piece.Word word.Or
joint_piece joint.And = piece.Word word.And
joint_piece (joint.Compared c) = comparison_piece c
joint_piece (joint.Between o) = operator_piece o

-- how close a joint binds, from `or` on
abbrev pub binding_of : Joint → ℕ
binding_of joint.Or = 0
binding_of joint.And = 1
binding_of (joint.Compared c) = 3
binding_of (joint.Between o) = closeness_of o

abbrev pub joins_conditions : Joint → Bool
joins_conditions joint.Or = true
joins_conditions joint.And = true
joins_conditions _ = false

abbrev pub is_lone_operator : Operator → Bool
is_lone_operator operator.Plus = false
is_lone_operator operator.Minus = false
is_lone_operator operator.Times = false
is_lone_operator _ = true

-- the joint has to stand alone between two factors
abbrev pub is_lone : Joint → Bool
is_lone (joint.Between o) = is_lone_operator o
is_lone _ = false

-- a joint that binds so close goes on with a row of joints that bind so close: comparisons stand
-- alone
abbrev pub goes_on : ℕ → ℕ → Bool
goes_on row close = if nat_eq row 3 then nat_lt close 3 else nat_le close row

-- the joint of the piece, where it binds at least so close and goes on with the row
abbrev pub joint_ahead : Option Joint → ℕ → ℕ → Option Joint
joint_ahead None row least = None
joint_ahead (Some j) row least = if nat_le least (binding_of j) && goes_on row (binding_of j) then Some j else None

-- two parts with a joint between them
abbrev pub joined_parts : Joint → Place → Expression → Place → Expression → Expression
joined_parts joint.Or p a q b = form.Either' p a q b
joined_parts joint.And p a q b = form.Both' p a q b
joined_parts (joint.Compared c) p a q b = form.Compare' c p a q b
joined_parts (joint.Between o) p a q b = form.Binary' o p a q b

-- how close what stands left of a joint has to stand together at least, on the scale of trees
abbrev pub left_least : Joint → ℕ
left_least joint.Or = 0
left_least joint.And = 1
left_least (joint.Compared c) = 4
left_least (joint.Between o) = left_of o

abbrev pub right_least : Joint → ℕ
right_least joint.Or = 1
right_least joint.And = 2
right_least (joint.Compared c) = 4
right_least (joint.Between o) = right_of o

-- both may stand left and right of the joint
abbrev pub may_join : Joint → Expression → Expression → Bool
may_join j a b = fits_binding a (left_least j) (joins_conditions j) && fits_binding b (right_least j) (joins_conditions j)

abbrev pub is_below : Option Joint → ℕ → Bool
is_below None least = true
is_below (Some j) least = nat_lt (binding_of j) least

-- what comes next joins nothing that binds at least so close
abbrev pub stops : ℕ → List Token → Bool
stops least [] = true
stops least (t ∷ ts) = is_below (joint_of t.piece) least
