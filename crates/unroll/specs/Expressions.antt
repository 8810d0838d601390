-- The value of an expression, for a rank of so many, where names have these values.
use Rattle.std.specs.Prelude.{ℕ, ℤ, pos, List, Bool, true, false, not, Option, Some, None, Result, Ok, Err, slice_get}
use Rattle.spmd_tree.specs.declared.tree.Expression.{Expression}
use Rattle.spmd_tree.specs.declared.tree.Expression.TheVariants as form
use Rattle.spmd_tree.specs.declared.tree.Comparison.{Comparison}
use Rattle.spmd_tree.specs.declared.tree.Operator.{Operator}
use Rattle.spmd_tree.specs.declared.tree.Operator.TheVariants.{Minus}
use Rattle.unroll.specs.declared.value.Value.{Value}
use Rattle.unroll.specs.declared.value.Value.TheVariants.{Number, Null, Truth}
use Rattle.unroll.specs.declared.value.FaultReason.{FaultReason}
use Rattle.unroll.specs.declared.value.FaultReason.TheVariants as reason
use Rattle.unroll.specs.Values.{operate, as_number, as_truth, compares}

-- goes on with what was found, or stops at what is wrong
abbrev pub on_found : {A B : Type 0} → Result A FaultReason → (A → Result B FaultReason) → Result B FaultReason
on_found (Err e) go = Err e
on_found (Ok x) go = go x

-- where a name's value was looked up
abbrev pub known : ℕ → Option (Option Value) → Result Value FaultReason
known name None = Err (reason.NoValue name)
known name (Some None) = Err (reason.NoValue name)
known name (Some (Some v)) = Ok v

abbrev pub truth : Result Bool FaultReason → Result Value FaultReason
truth (Err e) = Err e
truth (Ok b) = Ok (Truth b)

abbrev pub number_in : Result Value FaultReason → Result ℤ FaultReason
number_in r = on_found r (λ v. as_number v)

abbrev pub truth_in : Result Value FaultReason → Result Bool FaultReason
truth_in r = on_found r (λ v. as_truth v)

abbrev pub as_condition : Result Value FaultReason → Result Value FaultReason
as_condition r = truth (truth_in r)

abbrev pub opposed : Result Bool FaultReason → Result Value FaultReason
opposed (Err e) = Err e
opposed (Ok b) = Ok (Truth (not b))

-- the first of two that is wrong is told
abbrev pub operated : Operator → Result ℤ FaultReason → Result ℤ FaultReason → Result Value FaultReason
operated operator (Err e) b = Err e
operated operator (Ok x) (Err e) = Err e
operated operator (Ok x) (Ok y) = operate operator x y

abbrev pub compared : Comparison → Result Value FaultReason → Result Value FaultReason → Result Value FaultReason
compared comparison (Err e) b = Err e
compared comparison (Ok x) (Err e) = Err e
compared comparison (Ok x) (Ok y) = truth (compares comparison x y)

-- the second condition counts only where the first holds
abbrev pub both : Result Bool FaultReason → Result Value FaultReason → Result Value FaultReason
both (Err e) second = Err e
both (Ok false) second = Ok (Truth false)
both (Ok true) second = as_condition second

abbrev pub either : Result Bool FaultReason → Result Value FaultReason → Result Value FaultReason
either (Err e) second = Err e
either (Ok true) second = Ok (Truth true)
either (Ok false) second = as_condition second

abbrev pub choice : Result Bool FaultReason → Result Value FaultReason → Result Value FaultReason → Result Value FaultReason
choice (Err e) first second = Err e
choice (Ok true) first second = first
choice (Ok false) first second = second

abbrev pub expression_value : Expression → ℕ → ℕ → List (Option Value) → Result Value FaultReason
expression_value (form.Literal n) rank size values = Ok (Number n)
expression_value form.Null rank size values = Ok Null
expression_value form.Rank rank size values = Ok (Number (pos rank))
expression_value form.Size rank size values = Ok (Number (pos size))
expression_value (form.Named name) rank size values = known name (slice_get values name)
expression_value (form.Binary' operator p a q b) rank size values = operated operator (number_in (expression_value a rank size values)) (number_in (expression_value b rank size values))
expression_value (form.Compare' comparison p a q b) rank size values = compared comparison (expression_value a rank size values) (expression_value b rank size values)
expression_value (form.Negative' p a) rank size values = operated Minus (Ok (pos 0)) (number_in (expression_value a rank size values))
expression_value (form.Grouped' p a) rank size values = expression_value a rank size values
expression_value (form.Negation' p a) rank size values = opposed (truth_in (expression_value a rank size values))
expression_value (form.Both' p a q b) rank size values = both (truth_in (expression_value a rank size values)) (expression_value b rank size values)
expression_value (form.Either' p a q b) rank size values = either (truth_in (expression_value a rank size values)) (expression_value b rank size values)
expression_value (form.Choice' p c q a s b) rank size values = choice (truth_in (expression_value c rank size values)) (expression_value a rank size values) (expression_value b rank size values)

-- whether a condition holds
abbrev pub truth_of : Expression → ℕ → ℕ → List (Option Value) → Result Bool FaultReason
truth_of e rank size values = truth_in (expression_value e rank size values)
