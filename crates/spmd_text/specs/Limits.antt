-- The limits of a text: what is beyond them is no text of the language.
use Rattle.std.specs.Prelude.{◌≡◌, ℕ, ◌+◌, ◌≤◌, max, Bool, true, false, ◌&&◌, nat_eq, nat_le, if◌then◌else◌}
use Rattle.spmd_tree.specs.declared.tree.Expression.{Expression}
use Rattle.spmd_tree.specs.declared.tree.Expression.TheVariants as form
use Rattle.spmd_text.specs.Joints.{closeness, closeness_of}

-- how many of `(`, `-`, `not` and `if` .. `then` stand within one another
abbrev pub nesting : Expression → ℕ
nesting (form.Binary' o p a q b) = max (nesting a) (nesting b)
nesting (form.Compare' c p a q b) = max (nesting a) (nesting b)
nesting (form.Both' p a q b) = max (nesting a) (nesting b)
nesting (form.Either' p a q b) = max (nesting a) (nesting b)
nesting (form.Negative' p a) = nesting a + 1
nesting (form.Grouped' p a) = nesting a + 1
nesting (form.Negation' p a) = nesting a + 1
nesting (form.Choice' p c q a s b) = max (nesting c) (max (nesting a) (nesting b)) + 1
nesting _ = 0

-- of how many parts a row consists that ends with a joint that binds so close, where `parts` stand
-- in the row that is left of it, which binds so close
abbrev pub parts_with_joint : ℕ → ℕ → ℕ → ℕ
parts_with_joint close left parts_in_row = (if nat_eq left close then parts_in_row else 1) + 1

-- how many parts stand in a row, from the left: of joints that bind alike
abbrev pub parts_in_row : Expression → ℕ
parts_in_row (form.Binary' o p a q b) = parts_with_joint (closeness_of o) (closeness a) (parts_in_row a)
parts_in_row (form.Compare' c p a q b) = parts_with_joint 3 (closeness a) (parts_in_row a)
parts_in_row (form.Both' p a q b) = parts_with_joint 1 (closeness a) (parts_in_row a)
parts_in_row (form.Either' p a q b) = parts_with_joint 0 (closeness a) (parts_in_row a)
parts_in_row _ = 1

-- at most 256 parts stand in a row, anywhere in the tree
abbrev pub is_narrow : Expression → Bool
is_narrow (form.Binary' o p a q b) = nat_le (parts_with_joint (closeness_of o) (closeness a) (parts_in_row a)) 256 && is_narrow a && is_narrow b
is_narrow (form.Compare' c p a q b) = nat_le (parts_with_joint 3 (closeness a) (parts_in_row a)) 256 && is_narrow a && is_narrow b
is_narrow (form.Both' p a q b) = nat_le (parts_with_joint 1 (closeness a) (parts_in_row a)) 256 && is_narrow a && is_narrow b
is_narrow (form.Either' p a q b) = nat_le (parts_with_joint 0 (closeness a) (parts_in_row a)) 256 && is_narrow a && is_narrow b
is_narrow (form.Negative' p a) = is_narrow a
is_narrow (form.Grouped' p a) = is_narrow a
is_narrow (form.Negation' p a) = is_narrow a
is_narrow (form.Choice' p c q a s b) = is_narrow c && is_narrow a && is_narrow b
is_narrow _ = true

abbrev pub has_no_rank : Expression → Bool
has_no_rank form.Rank = false
has_no_rank (form.Binary' o p a q b) = has_no_rank a && has_no_rank b
has_no_rank (form.Compare' c p a q b) = has_no_rank a && has_no_rank b
has_no_rank (form.Both' p a q b) = has_no_rank a && has_no_rank b
has_no_rank (form.Either' p a q b) = has_no_rank a && has_no_rank b
has_no_rank (form.Negative' p a) = has_no_rank a
has_no_rank (form.Grouped' p a) = has_no_rank a
has_no_rank (form.Negation' p a) = has_no_rank a
has_no_rank (form.Choice' p c q a s b) = has_no_rank c && has_no_rank a && has_no_rank b
has_no_rank _ = true

-- the tree is within the limits: nested at most so deep, with no long row, and without `rank` where
-- the value of a parameter is read
pub record IsTreeWithin (depth : ℕ) (in_parameter : Bool) (e : Expression) : Type 0 where
  pub nested : nesting e ≤ depth
  pub narrow : is_narrow e ≡ true
  pub rankless : in_parameter ≡ true → has_no_rank e ≡ true
