-- Trees apart from what a text doesn't say of them: where their boxes stand, and how statements one
-- after another are put into pairs.
use Rattle.std.specs.Prelude.{List, [], ◌∷◌, ◌++◌, Option, Some, None}
use Rattle.std.specs.declared.alloc.Global.{Global}
use Rattle.std.specs.declared.boxed.Box.{Box}
use Rattle.spmd_tree.specs.declared.tree.Expression.{Expression}
use Rattle.spmd_tree.specs.declared.tree.Expression.TheVariants as form
use Rattle.spmd_tree.specs.declared.tree.LabelForm.{LabelForm}
use Rattle.spmd_tree.specs.declared.tree.GroupForm.{GroupForm}
use Rattle.spmd_tree.specs.declared.tree.Labels.{Labels}
use Rattle.spmd_tree.specs.declared.tree.Labels.TheVariants.{Last, More'}
use Rattle.spmd_tree.specs.declared.tree.Arguments.{Arguments}
use Rattle.spmd_tree.specs.declared.tree.Arguments.TheVariants as call
use Rattle.spmd_tree.specs.declared.tree.SpmdStatement.{SpmdStatement}
use Rattle.spmd_tree.specs.declared.tree.SpmdStatement.TheVariants as statement

-- where a box stands
abbrev pub Place : Type 0
Place = Box (Unit {0}) Global

-- ---- the same tree, each box of which stands at one place

abbrev pub put_expression : Place → Expression → Expression
put_expression here (form.Binary' o p a q b) = form.Binary' o here (put_expression here a) here (put_expression here b)
put_expression here (form.Compare' c p a q b) = form.Compare' c here (put_expression here a) here (put_expression here b)
put_expression here (form.Negative' p a) = form.Negative' here (put_expression here a)
put_expression here (form.Grouped' p a) = form.Grouped' here (put_expression here a)
put_expression here (form.Negation' p a) = form.Negation' here (put_expression here a)
put_expression here (form.Both' p a q b) = form.Both' here (put_expression here a) here (put_expression here b)
put_expression here (form.Either' p a q b) = form.Either' here (put_expression here a) here (put_expression here b)
put_expression here (form.Choice' p c q a s b) = form.Choice' here (put_expression here c) here (put_expression here a) here (put_expression here b)
put_expression here e = e

abbrev pub put_optional : Place → Option Expression → Option Expression
put_optional here None = None
put_optional here (Some e) = Some (put_expression here e)

abbrev pub put_label : Place → LabelForm → LabelForm
put_label here f = record { name = f.name; index = put_optional here f.index }

abbrev pub put_request : Place → Option LabelForm → Option LabelForm
put_request here None = None
put_request here (Some f) = Some (put_label here f)

abbrev pub put_labels : Place → Labels → Labels
put_labels here (Last f) = Last (put_label here f)
put_labels here (More' f p others) = More' (put_label here f) here (put_labels here others)

abbrev pub put_group : Place → Option GroupForm → Option GroupForm
put_group here None = None
put_group here (Some g) = Some (record { first = put_expression here g.first; last = put_expression here g.last; step = put_optional here g.step })

abbrev pub put_call : Place → Arguments → Arguments
put_call here (call.Send mode request d t c) = call.Send mode (put_request here request) (put_expression here d) (put_expression here t) (put_optional here c)
put_call here (call.Receive request s t c) = call.Receive (put_request here request) (put_optional here s) (put_optional here t) (put_optional here c)
put_call here (call.MatchedProbe handle s t c) = call.MatchedProbe (put_label here handle) (put_optional here s) (put_optional here t) (put_optional here c)
put_call here (call.Probe s t c) = call.Probe (put_optional here s) (put_optional here t) (put_optional here c)
put_call here (call.MatchedReceive request handle) = call.MatchedReceive (put_request here request) (put_label here handle)
put_call here (call.Wait request) = call.Wait (put_label here request)
put_call here (call.SendReceive d t s u c) =
    call.SendReceive (put_expression here d) (put_expression here t) (put_optional here s) (put_optional here u) (put_optional here c)
put_call here (call.Collective k root g c) = call.Collective k (put_optional here root) (put_group here g) (put_optional here c)

-- ---- statements one after another

-- these statements, put into pairs from the last one on
abbrev pub in_a_row : Place → List SpmdStatement → SpmdStatement
in_a_row here [] = statement.Nothing
in_a_row here (s ∷ ss) = statement.Sequence' here s here (in_a_row here ss)

-- the statements that a tree stands for, in their order, none of which is `Nothing` or a pair
abbrev pub statements : Place → SpmdStatement → List SpmdStatement
statements here statement.Nothing = []
statements here (statement.Sequence' p a q b) = statements here a ++ statements here b
statements here (statement.Parameter line name e) = statement.Parameter line name (put_optional here e) ∷ []
statements here (statement.Assign line name e) = statement.Assign line name (put_expression here e) ∷ []
statements here (statement.When' line chained c p a q b) =
    statement.When' line chained (put_expression here c) here (in_a_row here (statements here a)) here (in_a_row here (statements here b)) ∷ []
statements here (statement.Otherwise' p a) = statement.Otherwise' here (in_a_row here (statements here a)) ∷ []
statements here (statement.Repeat' line name first last step p a) =
    statement.Repeat' line name (put_expression here first) (put_expression here last) step here (in_a_row here (statements here a)) ∷ []
statements here (statement.Call line c) = statement.Call line (put_call here c) ∷ []
statements here (statement.WaitAll line requests) = statement.WaitAll line (put_labels here requests) ∷ []
statements here (statement.Unreached line) = statement.Unreached line ∷ []

-- the tree in the one form that all trees have that differ in this alone
abbrev pub plain : Place → SpmdStatement → SpmdStatement
plain here s = in_a_row here (statements here s)
