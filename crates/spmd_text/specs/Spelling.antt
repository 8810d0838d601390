-- The grammar: what pieces a syntax tree is written as. Each function takes the pieces of a text
-- from some place on, and answers what is left of them behind the tree; none, where they do not
-- begin with it, or none were given. What a function is given stands before it: a label with an
-- index is a name, then what `after_index` says.
use Rattle.std.specs.Prelude.{ℕ, ℤ, pos, int_le, Bool, true, false, ◌&&◌, ◌||◌, not, nat_eq, nat_le, List, [], ◌∷◌, Option, Some, None, if◌then◌else◌}
use Rattle.spmd_tree.specs.declared.tree.SendMode.{SendMode}
use Rattle.spmd_tree.specs.declared.tree.SendMode.TheVariants.{Standard, Synchronous, Buffered}
use Rattle.spmd_tree.specs.declared.tree.CollectiveKind.{CollectiveKind}
use Rattle.spmd_tree.specs.declared.tree.CollectiveKind.TheVariants as kind
use Rattle.spmd_tree.specs.declared.tree.Operator.{Operator}
use Rattle.spmd_tree.specs.declared.tree.Operator.TheVariants as operator
use Rattle.spmd_tree.specs.declared.tree.Comparison.{Comparison}
use Rattle.spmd_tree.specs.declared.tree.Comparison.TheVariants as comparison
use Rattle.spmd_tree.specs.declared.tree.Expression.{Expression}
use Rattle.spmd_tree.specs.declared.tree.Expression.TheVariants as form
use Rattle.spmd_tree.specs.declared.tree.LabelForm.{LabelForm}
use Rattle.spmd_tree.specs.declared.tree.GroupForm.{GroupForm}
use Rattle.spmd_tree.specs.declared.tree.Labels.{Labels}
use Rattle.spmd_tree.specs.declared.tree.Labels.TheVariants.{Last, More'}
use Rattle.spmd_tree.specs.declared.tree.Arguments.{Arguments}
use Rattle.spmd_tree.specs.declared.tree.Arguments.TheVariants as call
use Rattle.spmd_tree.specs.declared.tree.SpmdStatement.{SpmdStatement}
use Rattle.spmd_tree.specs.declared.tree.SpmdStatement.TheVariants as statement
use Rattle.spmd_text.specs.declared.reading.SpmdPolicy.{SpmdPolicy}
use Rattle.spmd_text.specs.declared.reading.SpmdPolicy.TheVariants as policy
use Rattle.spmd_text.specs.declared.piece.Word.{Word}
use Rattle.spmd_text.specs.declared.piece.Word.TheVariants as word
use Rattle.spmd_text.specs.declared.piece.Piece.{Piece}
use Rattle.spmd_text.specs.declared.piece.Piece.TheVariants as piece
use Rattle.spmd_text.specs.declared.piece.Token.{Token}
use Rattle.spmd_text.specs.Words.{code}

abbrev pub Rest : Type 0
Rest = Option (List Token)

-- these pieces, where it holds
abbrev pub only : Bool → Rest → Rest
only true rest = rest
only false rest = None

-- ---- one piece

abbrev pub is_name_piece : Piece → ℕ → Bool
is_name_piece (piece.Name j) k = nat_eq j k
is_name_piece _ k = false

abbrev pub same_number : ℤ → ℤ → Bool
same_number a b = if int_le a b then int_le b a else false

abbrev pub is_number_piece : Piece → ℤ → Bool
is_number_piece (piece.Number m) n = same_number m n
is_number_piece _ n = false

-- the second piece is the first one
abbrev pub is_piece : Piece → Piece → Bool
is_piece (piece.Name k) q = is_name_piece q k
is_piece (piece.Number n) q = is_number_piece q n
is_piece p q = nat_eq (code q) (code p)

abbrev pub piece_begins : Piece → Rest → Bool
piece_begins p None = false
piece_begins p (Some []) = false
piece_begins p (Some (t ∷ ts)) = is_piece p t.piece

abbrev pub after_piece : Piece → Rest → Rest
after_piece p None = None
after_piece p (Some []) = None
after_piece p (Some (t ∷ ts)) = only (is_piece p t.piece) (Some ts)

-- the first piece stands on this line; none is taken
abbrev pub on_line : ℕ → Rest → Rest
on_line line None = None
on_line line (Some []) = None
on_line line (Some (t ∷ ts)) = only (nat_eq t.line line) (Some (t ∷ ts))

-- ---- expressions and conditions

abbrev pub is_condition : Expression → Bool
is_condition (form.Compare' c p a q b) = true
is_condition (form.Negation' p a) = true
is_condition (form.Both' p a q b) = true
is_condition (form.Either' p a q b) = true
is_condition (form.Grouped' p a) = is_condition a
is_condition _ = false

abbrev pub operator_binding : Operator → ℕ
operator_binding operator.Plus = 5
operator_binding operator.Minus = 5
operator_binding operator.Times = 7
operator_binding _ = 6

-- how close an expression's parts stand together, from `or` on
abbrev pub binding : Expression → ℕ
binding (form.Either' p a q b) = 0
binding (form.Both' p a q b) = 1
binding (form.Negation' p a) = 2
binding (form.Compare' c p a q b) = 3
binding (form.Choice' p c q a s b) = 4
binding (form.Binary' o p a q b) = operator_binding o
binding _ = 8

-- what may stand left and right of an operator: + and - group from the left, and so does *; the
-- others stand alone between factors
abbrev pub left_of : Operator → ℕ
left_of operator.Plus = 5
left_of operator.Minus = 5
left_of operator.Times = 7
left_of _ = 8

abbrev pub right_of : Operator → ℕ
right_of operator.Plus = 6
right_of operator.Minus = 6
right_of _ = 8

abbrev pub same : Bool → Bool → Bool
same true b = b
same false b = not b

-- an expression that binds at least so close; a condition or not
abbrev pub fits_binding : Expression → ℕ → Bool → Bool
fits_binding e least condition = nat_le least (binding e) && same condition (is_condition e)

abbrev pub operator_piece : Operator → Piece
operator_piece operator.Plus = piece.Plus
operator_piece operator.Minus = piece.Minus
operator_piece operator.Times = piece.Star
operator_piece operator.Quotient = piece.Word word.Div
operator_piece operator.Remainder = piece.Word word.Mod
operator_piece operator.Left = piece.Word word.Shl
operator_piece operator.Right = piece.Word word.Shr
operator_piece operator.Exclusive = piece.Word word.Xor

abbrev pub comparison_piece : Comparison → Piece
comparison_piece comparison.Same = piece.Same
comparison_piece comparison.Other = piece.Other
comparison_piece comparison.Below = piece.Below
comparison_piece comparison.UpTo = piece.UpTo
comparison_piece comparison.Above = piece.Above
comparison_piece comparison.From = piece.From

abbrev pub after_expression : Expression → Rest → Rest
after_expression (form.Literal n) rest = after_piece (piece.Number n) rest
after_expression form.Null rest = after_piece (piece.Word word.Null) rest
after_expression form.Rank rest = after_piece (piece.Word word.Rank) rest
after_expression form.Size rest = after_piece (piece.Word word.Size) rest
after_expression (form.Named k) rest = after_piece (piece.Name k) rest
after_expression (form.Binary' o p a q b) rest =
    only (fits_binding a (left_of o) false && fits_binding b (right_of o) false) (after_expression b (after_piece (operator_piece o) (after_expression a rest)))
after_expression (form.Compare' c p a q b) rest =
    only (fits_binding a 4 false && fits_binding b 4 false) (after_expression b (after_piece (comparison_piece c) (after_expression a rest)))
after_expression (form.Negative' p a) rest = only (fits_binding a 8 false) (after_expression a (after_piece piece.Minus rest))
after_expression (form.Grouped' p a) rest = after_piece piece.Close (after_expression a (after_piece piece.Open rest))
after_expression (form.Negation' p a) rest = only (fits_binding a 2 true) (after_expression a (after_piece (piece.Word word.Not) rest))
after_expression (form.Both' p a q b) rest =
    only (fits_binding a 1 true && fits_binding b 2 true) (after_expression b (after_piece (piece.Word word.And) (after_expression a rest)))
after_expression (form.Either' p a q b) rest =
    only (fits_binding a 0 true && fits_binding b 1 true) (after_expression b (after_piece (piece.Word word.Or) (after_expression a rest)))
after_expression (form.Choice' p c q a s b) rest =
    only (fits_binding c 0 true && fits_binding a 4 false && fits_binding b 4 false)
    (after_expression b (after_piece (piece.Word word.Else) (after_expression a (after_piece (piece.Word word.Then) (after_expression c (after_piece (piece.Word word.If) rest))))))

-- a number or null
abbrev pub after_value : Expression → Rest → Rest
after_value e rest = only (fits_binding e 4 false) (after_expression e rest)

abbrev pub after_condition : Expression → Rest → Rest
after_condition e rest = only (fits_binding e 0 true) (after_expression e rest)

-- a value that may be left out, with the piece before it
abbrev pub after_optional : Piece → Option Expression → Rest → Rest
after_optional p None rest = rest
after_optional p (Some e) rest = after_value e (after_piece p rest)

-- ---- calls

abbrev pub after_index : Option Expression → Rest → Rest
after_index None rest = rest
after_index (Some e) rest = after_piece piece.CloseIndex (after_value e (after_piece piece.OpenIndex rest))

abbrev pub after_label : LabelForm → Rest → Rest
after_label f rest = after_index f.index (after_piece (piece.Name f.name) rest)

-- the request of a call that is started, and a comma
abbrev pub after_request : Option LabelForm → Rest → Rest
after_request None rest = rest
after_request (Some f) rest = after_piece piece.Comma (after_label f rest)

abbrev pub after_wild : Option Expression → Rest → Rest
after_wild None rest = after_piece piece.Star rest
after_wild (Some e) rest = after_value e rest

abbrev pub after_communicator : Option Expression → Rest → Rest
after_communicator c rest = after_optional (piece.Word word.Comm) c rest

-- a destination, a comma and a tag
abbrev pub after_message : Expression → Expression → Rest → Rest
after_message d t rest = after_value t (after_piece piece.Comma (after_value d rest))

-- a source, a comma and a tag
abbrev pub after_pattern : Option Expression → Option Expression → Rest → Rest
after_pattern s t rest = after_wild t (after_piece piece.Comma (after_wild s rest))

abbrev pub after_root : Option Expression → Rest → Rest
after_root None rest = rest
after_root (Some e) rest = after_value e rest

abbrev pub after_group : Option GroupForm → Rest → Rest
after_group None rest = rest
after_group (Some g) rest =
    after_optional (piece.Word word.Step) g.step (after_value g.last (after_piece (piece.Word word.To) (after_value g.first (after_piece (piece.Word word.Among) rest))))

abbrev pub word_of_send : SendMode → Option LabelForm → Word
word_of_send Standard None = word.Send
word_of_send Standard (Some f) = word.Isend
word_of_send Synchronous None = word.Ssend
word_of_send Synchronous (Some f) = word.Issend
word_of_send Buffered None = word.Bsend
word_of_send Buffered (Some f) = word.Ibsend

abbrev pub receive_word : Option LabelForm → Word
receive_word None = word.Recv
receive_word (Some f) = word.Irecv

abbrev pub matched_word : Option LabelForm → Word
matched_word None = word.Mrecv
matched_word (Some f) = word.Imrecv

abbrev pub kind_word : CollectiveKind → Word
kind_word kind.Barrier = word.Barrier
kind_word kind.Broadcast = word.Bcast
kind_word kind.Reduce = word.Reduce
kind_word kind.AllReduce = word.Allreduce
kind_word kind.Gather = word.Gather
kind_word kind.Scatter = word.Scatter
kind_word kind.AllGather = word.Allgather
kind_word kind.AllToAll = word.Alltoall
kind_word kind.Scan = word.Scan

abbrev pub is_rooted : CollectiveKind → Bool
is_rooted kind.Broadcast = true
is_rooted kind.Reduce = true
is_rooted kind.Gather = true
is_rooted kind.Scatter = true
is_rooted _ = false

abbrev pub has_root : Option Expression → Bool
has_root None = false
has_root (Some e) = true

-- the word that a call begins with
abbrev pub call_word : Arguments → Word
call_word (call.Send mode request d t c) = word_of_send mode request
call_word (call.Receive request s t c) = receive_word request
call_word (call.MatchedProbe handle s t c) = word.Mprobe
call_word (call.Probe s t c) = word.Probe
call_word (call.MatchedReceive request handle) = matched_word request
call_word (call.Wait request) = word.Wait
call_word (call.SendReceive d t s u c) = word.Sendrecv
call_word (call.Collective k root g c) = kind_word k

-- what stands behind the word
abbrev pub after_arguments : Arguments → Rest → Rest
after_arguments (call.Send mode request d t c) rest = after_communicator c (after_message d t (after_request request rest))
after_arguments (call.Receive request s t c) rest = after_communicator c (after_pattern s t (after_request request rest))
after_arguments (call.MatchedProbe handle s t c) rest = after_communicator c (after_pattern s t (after_piece piece.Comma (after_label handle rest)))
after_arguments (call.Probe s t c) rest = after_communicator c (after_pattern s t rest)
after_arguments (call.MatchedReceive request handle) rest = after_label handle (after_request request rest)
after_arguments (call.Wait request) rest = after_label request rest
after_arguments (call.SendReceive d t s u c) rest = after_communicator c (after_pattern s u (after_piece piece.Comma (after_message d t rest)))
after_arguments (call.Collective k root g c) rest =
    only (same (is_rooted k) (has_root root)) (after_communicator c (after_group g (after_root root rest)))

abbrev pub after_call_tree : Arguments → Rest → Rest
after_call_tree c rest = after_arguments c (after_piece (piece.Word (call_word c)) rest)

abbrev pub after_labels : Labels → Rest → Rest
after_labels (Last f) rest = after_label f rest
after_labels (More' f p others) rest = after_labels others (after_piece piece.Comma (after_label f rest))

-- ---- statements

-- a part that stands behind the statements of an `if`: an `else` or an `elif`
abbrev pub is_branch : SpmdStatement → Bool
is_branch (statement.Otherwise' p a) = true
is_branch (statement.When' line chained c p a q b) = chained
is_branch _ = false

abbrev pub is_nothing : SpmdStatement → Bool
is_nothing statement.Nothing = true
is_nothing _ = false

-- what may stand behind the statements of an `if`
unfoldable pub is_tail : SpmdStatement → Bool
is_tail s = is_branch s || is_nothing s

-- a step of 1 may be left out
abbrev pub after_gap : ℤ → Rest → Rest
after_gap n rest =
    if piece_begins (piece.Word word.Step) rest
    then after_piece (piece.Number n) (after_piece (piece.Word word.Step) rest)
    else only (same_number n (pos 1)) rest

abbrev pub branch_word : Bool → Word
branch_word true = word.Elif
branch_word false = word.If

-- an `elif` ends with its `if`
abbrev pub after_end : Bool → Rest → Rest
after_end true rest = rest
after_end false rest = after_piece piece.LineEnd (after_piece (piece.Word word.End) rest)

-- a statement begins with this word, on this line
abbrev pub after_start : ℕ → Word → Rest → Rest
after_start line w rest = after_piece (piece.Word w) (on_line line rest)

-- a parameter, up to the end of its line
abbrev pub after_parameter : ℕ → ℕ → Option Expression → Rest → Rest
after_parameter line name e rest = after_piece piece.LineEnd (after_optional piece.Equals e (after_piece (piece.Name name) (after_start line word.Param rest)))

-- what has this name as its variable, up to the first value
abbrev pub after_variable : ℕ → Word → ℕ → Rest → Rest
after_variable line w name rest = after_piece piece.Equals (after_piece (piece.Name name) (after_start line w rest))

-- an `if` or an `elif` with its condition, on this line
abbrev pub after_head : ℕ → Bool → Expression → Rest → Rest
after_head line chained c rest = after_piece piece.LineEnd (after_condition c (after_start line (branch_word chained) rest))

-- the ends and the step of a loop, up to the end of the line
abbrev pub after_span : Expression → Expression → ℤ → Rest → Rest
after_span first last step rest = after_piece piece.LineEnd (after_gap step (after_value last (after_piece (piece.Word word.To) (after_value first rest))))

abbrev pub after_statement : SpmdStatement → Rest → Rest
after_statement statement.Nothing rest = rest
after_statement (statement.Sequence' p a q b) rest = only (not (is_branch a) && not (is_branch b)) (after_statement b (after_statement a rest))
after_statement (statement.Parameter line name e) rest = after_parameter line name e rest
after_statement (statement.Assign line name e) rest = after_piece piece.LineEnd (after_value e (after_variable line word.Let name rest))
after_statement (statement.When' line chained c p a q b) rest =
    only (not (is_branch a) && is_tail b) (after_end chained (after_statement b (after_statement a (after_head line chained c rest))))
after_statement (statement.Otherwise' p a) rest =
    only (not (is_branch a)) (after_statement a (after_piece piece.LineEnd (after_piece (piece.Word word.Else) rest)))
after_statement (statement.Repeat' line name first last step p a) rest =
    only (not (is_branch a)) (after_end false (after_statement a (after_span first last (pos step) (after_variable line word.For name rest))))
after_statement (statement.Call line c) rest = after_piece piece.LineEnd (after_call_tree c (on_line line rest))
after_statement (statement.WaitAll line requests) rest = after_piece piece.LineEnd (after_labels requests (after_start line word.Waitall rest))
after_statement (statement.Unreached line) rest = after_piece piece.LineEnd (after_start line word.Error rest)

-- ---- the whole text

-- parameters alone
abbrev pub are_parameters : SpmdStatement → Bool
are_parameters statement.Nothing = true
are_parameters (statement.Sequence' p a q b) = are_parameters a && are_parameters b
are_parameters (statement.Parameter line name e) = true
are_parameters _ = false

-- no parameter
abbrev pub has_none : SpmdStatement → Bool
has_none (statement.Sequence' p a q b) = has_none a && has_none b
has_none (statement.Parameter line name e) = false
has_none (statement.When' line chained c p a q b) = has_none a && has_none b
has_none (statement.Otherwise' p a) = has_none a
has_none (statement.Repeat' line name first last step p a) = has_none a
has_none _ = true

-- parameters stand before all else
abbrev pub is_ordered : SpmdStatement → Bool
is_ordered (statement.Sequence' p a q b) = are_parameters a && has_none b
is_ordered _ = false

abbrev pub word_of_policy : SpmdPolicy → Word
word_of_policy policy.Any = word.Any
word_of_policy policy.Never = word.Never
word_of_policy policy.Always = word.Always

-- the policy `any` may be left out
abbrev pub is_any : SpmdPolicy → Bool
is_any policy.Any = true
is_any _ = false

abbrev pub after_policy : SpmdPolicy → Rest → Rest
after_policy p rest =
    if piece_begins (piece.Word word.Policy) rest
    then after_piece piece.LineEnd (after_piece (piece.Word (word_of_policy p)) (after_piece (piece.Word word.Policy) rest))
    else only (is_any p) rest

abbrev pub after_text : SpmdPolicy → SpmdStatement → Rest → Rest
after_text p s rest =
    only (is_ordered s) (after_piece piece.TextEnd (after_statement s (after_policy p (after_piece piece.LineEnd (after_piece (piece.Word word.Spmd) rest)))))
