-- What was read where nothing is wrong: the pieces say it, and it is within the limits.
use Rattle.std.specs.Prelude.{◌≡◌, ℕ, ◌+◌, ◌≤◌, Bool, true, false, List, Some}
use Rattle.spmd_tree.specs.declared.tree.Expression.{Expression}
use Rattle.spmd_tree.specs.declared.tree.Expression.TheVariants as form
use Rattle.spmd_text.specs.declared.expressions.Beginning.{Beginning}
use Rattle.spmd_text.specs.declared.joints.Joint.{Joint}
use Rattle.spmd_text.specs.declared.joints.Prefix.{Prefix}
use Rattle.spmd_text.specs.declared.joints.Row.{Row}
use Rattle.spmd_text.specs.declared.parser.Parser.{Parser}
use Rattle.spmd_text.specs.declared.piece.Token.{Token}
use Rattle.spmd_text.specs.Spelling.{after_expression, binding, is_condition}
use Rattle.spmd_text.specs.parts.Joints.{binding_of, is_lone, joined_parts, joins_conditions, Place, stops}
use Rattle.spmd_text.specs.Joints.{closeness}
use Rattle.spmd_text.specs.Limits.{IsTreeWithin, parts_in_row}
use Rattle.spmd_text.specs.parts.Growing.{begun, enclosed, ends_prefix, is_lone_tree, is_operand, IsJointRow}

-- the tree is what these pieces say, up to what is left; it may stand where joints bind at least so
-- close, and no joint follows that binds as close, where numbers are joined
pub record WasRead (here : List Token) (in_parameter : Bool) (new : Parser) (least depth : ℕ) (e : Expression) : Type 0 where
  pub spelled : after_expression e (Some here) ≡ Some new.rest.now
  pub within : IsTreeWithin depth in_parameter e
  pub close : least ≤ closeness e
  pub number : 4 ≤ least → is_condition e ≡ false
  pub ends : 4 ≤ least → stops least new.rest.now ≡ true

-- the first part is what these pieces say, up to what is left
pub record WasBegun (old new : Parser) (b : Beginning) (least depth : ℕ) (e : Expression) : Type 0 where
  pub spelled : after_expression e (Some old.rest.now) ≡ Some new.rest.now
  pub within : IsTreeWithin depth old.in_parameter e
  pub number : 4 ≤ least → is_condition e ≡ false
  pub operand : is_operand e ≡ true
  pub begun_so : b ≡ begun e
  pub choice : binding e ≡ 4 → stops 4 new.rest.now ≡ true

-- what was read so far, which ends with this row, is what these pieces say, up to what is left
pub record SoFar (here : List Token) (s : Parser) (left : Expression) (row : Row) (least depth : ℕ) : Type 0 where
  pub spelled : after_expression left (Some here) ≡ Some s.rest.now
  pub within : IsTreeWithin depth s.in_parameter left
  pub row_so : IsJointRow row left
  pub close : least ≤ closeness left
  pub number : 4 ≤ least → is_condition left ≡ false
  pub ends : 4 ≤ closeness left → stops (closeness left + 1) s.rest.now ≡ true
  pub choice : binding left ≡ 4 → stops 4 s.rest.now ≡ true

-- the row with one joint more is within the limits, and no joint in it that has to stand alone
pub record IsLonger (row next : Row) (j : Joint) (p : Place) (a : Expression) (q : Place) (b : Expression) : Type 0 where
  pub few : parts_in_row (joined_parts j p a q b) ≤ 256
  pub row_so : IsJointRow next (joined_parts j p a q b)
  pub joint_so : closeness a ≡ binding_of j → is_lone j ≡ false
  pub left_so : closeness a ≡ binding_of j → is_lone_tree a ≡ false

pub record PutTogether (old new : Parser) (j : Joint) (left right made : Expression) : Type 0 where
  pub p : Place
  pub q : Place
  pub is : made ≡ joined_parts j p left q right
  pub same : new ≡ old
  pub kind : is_condition right ≡ joins_conditions j

pub record PutAround (old new : Parser) (kind : Prefix) (inner made : Expression) : Type 0 where
  pub p : Place
  pub is : made ≡ enclosed kind p inner
  pub ends : ends_prefix kind inner old.rest.now new.rest.now

pub record PutChoice (old new : Parser) (condition yes no made : Expression) : Type 0 where
  pub p : Place
  pub q : Place
  pub s : Place
  pub is : made ≡ form.Choice' p condition q yes s no
  pub same : new ≡ old
  pub yes_number : is_condition yes ≡ false
  pub no_number : is_condition no ≡ false
