-- What joins the parts of expressions, and how close.
use Rattle.std.specs.Prelude.{ℕ}
use Rattle.spmd_tree.specs.declared.tree.Operator.{Operator}
use Rattle.spmd_tree.specs.declared.tree.Operator.TheVariants as operator
use Rattle.spmd_tree.specs.declared.tree.Expression.{Expression}
use Rattle.spmd_tree.specs.declared.tree.Expression.TheVariants as form

abbrev pub closeness_of : Operator → ℕ
closeness_of operator.Plus = 4
closeness_of operator.Minus = 4
closeness_of _ = 5

-- how close the parts of a tree stand together, on the scale of joints: 2 for `not`, 4 for a
-- choice, 6 for a factor
abbrev pub closeness : Expression → ℕ
closeness (form.Either' p a q b) = 0
closeness (form.Both' p a q b) = 1
closeness (form.Negation' p a) = 2
closeness (form.Compare' c p a q b) = 3
closeness (form.Choice' p c q a s b) = 4
closeness (form.Binary' o p a q b) = closeness_of o
closeness _ = 6
