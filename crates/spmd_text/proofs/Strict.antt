-- Behind nothing stands nothing.
use Rattle.std.proofs.Common.{◌≡◌, Bool, true, false, Option, Some, None, refl, ap, ◌∙◌}
use Rattle.spmd_tree.specs.declared.tree.Expression.{Expression}
use Rattle.spmd_tree.specs.declared.tree.Expression.TheVariants as form
use Rattle.spmd_tree.specs.declared.tree.LabelForm.{LabelForm}
use Rattle.spmd_tree.specs.declared.tree.GroupForm.{GroupForm}
use Rattle.spmd_tree.specs.declared.tree.Labels.{Labels}
use Rattle.spmd_tree.specs.declared.tree.Labels.TheVariants.{Last, More'}
use Rattle.spmd_tree.specs.declared.tree.Arguments.{Arguments}
use Rattle.spmd_tree.specs.declared.tree.Arguments.TheVariants as call
use Rattle.spmd_text.specs.declared.piece.Word.TheVariants as word
use Rattle.spmd_text.specs.declared.piece.Piece.{Piece}
use Rattle.spmd_text.specs.declared.piece.Piece.TheVariants as piece
use Rattle.spmd_text.specs.Spelling.{Rest, after_piece, after_arguments, after_expression, after_group, after_index, after_label, after_labels, after_optional, after_request, after_root, after_value, after_wild, comparison_piece, only, operator_piece}

pub only_none : (b : Bool) → only b None ≡ None
only_none true = refl
only_none false = refl

-- the same, where it is none by its parts
pub only_of : (b : Bool) (z : Rest) → z ≡ None → only b z ≡ None
only_of b z e = ap (λ (y : Rest). only b y) e ∙ only_none b

pub after_of : (p : Piece) (z : Rest) → z ≡ None → after_piece p z ≡ None
after_of p z e = ap (λ (y : Rest). after_piece p y) e

pub none_of : (F : Rest → Rest) → F None ≡ None → (z : Rest) → z ≡ None → F z ≡ None
none_of F strict z e = ap F e ∙ strict

pub expression_strict : (e : Expression) → after_expression e None ≡ None
expression_strict (form.Literal n) = refl
expression_strict form.Null = refl
expression_strict form.Rank = refl
expression_strict form.Size = refl
expression_strict (form.Named k) = refl
expression_strict (form.Binary' o p a q b) = only_of _ _ (none_of (after_expression b) (expression_strict b) _ (after_of (operator_piece o) _ (expression_strict a)))
expression_strict (form.Compare' c p a q b) = only_of _ _ (none_of (after_expression b) (expression_strict b) _ (after_of (comparison_piece c) _ (expression_strict a)))
expression_strict (form.Negative' p a) = only_of _ _ (expression_strict a)
expression_strict (form.Grouped' p a) = after_of piece.Close _ (expression_strict a)
expression_strict (form.Negation' p a) = only_of _ _ (expression_strict a)
expression_strict (form.Both' p a q b) = only_of _ _ (none_of (after_expression b) (expression_strict b) _ (after_of (piece.Word word.And) _ (expression_strict a)))
expression_strict (form.Either' p a q b) = only_of _ _ (none_of (after_expression b) (expression_strict b) _ (after_of (piece.Word word.Or) _ (expression_strict a)))
expression_strict (form.Choice' p c q a s b) =
    only_of _ _ (none_of (after_expression b) (expression_strict b) _ (after_of (piece.Word word.Else) _ (none_of (after_expression a) (expression_strict a) _ (after_of (piece.Word word.Then) _ (expression_strict c)))))

pub value_strict : (e : Expression) → after_value e None ≡ None
value_strict e = only_of _ _ (expression_strict e)

pub value_of : (e : Expression) (z : Rest) → z ≡ None → after_value e z ≡ None
value_of e z f = ap (λ (y : Rest). after_value e y) f ∙ value_strict e

pub optional_strict : (p : Piece) (e : Option Expression) → after_optional p e None ≡ None
optional_strict p None = refl
optional_strict p (Some e) = value_strict e

pub index_strict : (e : Option Expression) → after_index e None ≡ None
index_strict None = refl
index_strict (Some e) = after_of piece.CloseIndex _ (value_strict e)

pub label_strict : (f : LabelForm) → after_label f None ≡ None
label_strict f = index_strict f.index

pub request_strict : (r : Option LabelForm) → after_request r None ≡ None
request_strict None = refl
request_strict (Some f) = after_of piece.Comma _ (label_strict f)

pub wild_strict : (e : Option Expression) → after_wild e None ≡ None
wild_strict None = refl
wild_strict (Some e) = value_strict e

pub root_strict : (e : Option Expression) → after_root e None ≡ None
root_strict None = refl
root_strict (Some e) = value_strict e

pub group_strict : (g : Option GroupForm) → after_group g None ≡ None
group_strict None = refl
group_strict (Some g) =
    ap (λ (z : Rest). after_optional (piece.Word word.Step) g.step z)
    (value_of g.last _ (after_of (piece.Word word.To) _ (value_strict g.first)))
    ∙ optional_strict (piece.Word word.Step) g.step

pub labels_strict : (labels : Labels) → after_labels labels None ≡ None
labels_strict (Last f) = label_strict f
labels_strict (More' f p others) = none_of (after_labels others) (labels_strict others) _ (after_of piece.Comma _ (label_strict f))

comm_of : (e : Option Expression) (z : Rest) → z ≡ None → after_optional (piece.Word word.Comm) e z ≡ None
comm_of e z f = ap (λ (y : Rest). after_optional (piece.Word word.Comm) e y) f ∙ optional_strict (piece.Word word.Comm) e

wild_of : (e : Option Expression) (z : Rest) → z ≡ None → after_wild e z ≡ None
wild_of e z f = ap (λ (y : Rest). after_wild e y) f ∙ wild_strict e

label_of : (f : LabelForm) (z : Rest) → z ≡ None → after_label f z ≡ None
label_of f z e = ap (λ (y : Rest). after_label f y) e ∙ label_strict f

group_of : (g : Option GroupForm) (z : Rest) → z ≡ None → after_group g z ≡ None
group_of g z e = ap (λ (y : Rest). after_group g y) e ∙ group_strict g

pub arguments_strict : (c : Arguments) → after_arguments c None ≡ None
arguments_strict (call.Send mode request d t c) = comm_of c _ (value_of t _ (after_of piece.Comma _ (value_of d _ (request_strict request))))
arguments_strict (call.Receive request s t c) = comm_of c _ (wild_of t _ (after_of piece.Comma _ (wild_of s _ (request_strict request))))
arguments_strict (call.MatchedProbe handle s t c) = comm_of c _ (wild_of t _ (after_of piece.Comma _ (wild_of s _ (after_of piece.Comma _ (label_strict handle)))))
arguments_strict (call.Probe s t c) = comm_of c _ (wild_of t _ (after_of piece.Comma _ (wild_strict s)))
arguments_strict (call.MatchedReceive request handle) = label_of handle _ (request_strict request)
arguments_strict (call.Wait request) = label_strict request
arguments_strict (call.SendReceive d t s u c) =
    comm_of c _ (wild_of u _ (after_of piece.Comma _ (wild_of s _ (after_of piece.Comma _ (value_of t _ (after_of piece.Comma _ (value_strict d)))))))
arguments_strict (call.Collective k root g c) = only_of _ _ (comm_of c _ (group_of g _ (root_strict root)))
