-- What inner functions promise one another, beside `specs/Rules.antt`.
use Rattle.std.specs.Prelude.{◌≡◌, ℕ, ◌≤◌, Bool, true, false, ◌&&◌, not, List, length, Option, Some, None, is_some}
use Rattle.std.specs.Global.{Vec}
use Rattle.spmd_tree.specs.declared.tree.SendMode.TheVariants.{Standard, Synchronous, Buffered}
use Rattle.spmd_tree.specs.declared.tree.CollectiveKind.TheVariants as kind
use Rattle.spmd_tree.specs.declared.tree.Expression.{Expression}
use Rattle.spmd_tree.specs.declared.tree.LabelForm.{LabelForm}
use Rattle.spmd_tree.specs.declared.tree.GroupForm.{GroupForm}
use Rattle.spmd_tree.specs.declared.tree.Labels.{Labels}
use Rattle.spmd_tree.specs.declared.tree.Arguments.{Arguments}
use Rattle.spmd_tree.specs.declared.tree.Arguments.TheVariants as call
use Rattle.spmd_text.specs.declared.parser.Parser.{Parser}
use Rattle.spmd_text.specs.declared.piece.Word.{Word}
use Rattle.spmd_text.specs.declared.piece.Word.TheVariants as word
use Rattle.spmd_text.specs.declared.piece.Piece.{Piece}
use Rattle.spmd_text.specs.declared.piece.Piece.TheVariants as piece
use Rattle.spmd_text.specs.declared.piece.Token.{Token}
use Rattle.spmd_text.specs.declared.calls.Form.{Form}
use Rattle.spmd_text.specs.declared.calls.Form.TheVariants as form
use Rattle.spmd_text.specs.Spelling.{Rest, after_piece, after_arguments, after_condition, after_group, after_index, after_label, after_labels, after_optional, after_request, after_root, after_value, after_wild, piece_begins, has_root, is_rooted}
use Rattle.spmd_text.specs.parts.Joints.{stops}
use Rattle.spmd_text.specs.Limits.{IsTreeWithin}
use Rattle.spmd_text.specs.parts.Reading.{Finds, Sticks}
use Rattle.spmd_text.specs.Rules.{IfThere, MayCall, MayGroup, MayLabel, MayLabels, MayValue, count_labels}

-- the reader has the same names, parameters and open loops, no piece comes back, and what was wrong
-- first stays so
pub record Keeps (old new : Parser) : Type 0 where
  pub names : new.names.now ≡ old.names.now
  pub in_parameter : new.in_parameter ≡ old.in_parameter
  pub parameters : new.parameters.items ≡ old.parameters.items
  pub loops : new.loops.items ≡ old.loops.items
  pub shorter : length new.rest.now ≤ length old.rest.now
  pub sticks : Sticks old new

-- A part of a text: what is left behind each of its trees, which of them may be read, which two are
-- one, and what may come behind them.
pub record SyntaxPart (X : Type 0) : Type 1 where
  pub behind : X → Rest → Rest
  pub May : X → Type 0
  pub Same : X → X → Type 0
  pub ends : List Token → Bool

-- The part is read. Where nothing was wrong and some tree of it stands here, it was found, unless
-- memory ran out; and where nothing is wrong then, what was found is such a tree.
pub record HasRead {X : Type 0} (part : SyntaxPart X) (old new : Parser) (found : X) : Type 0 where
  pub goes : Keeps old new
  pub finds : (x : X) (rest : List Token) → old.fault ≡ None → part.behind x (Some old.rest.now) ≡ Some rest → part.May x → part.ends rest ≡ true
      → Finds new rest (part.Same found x)
  pub stands : new.fault ≡ None → part.behind found (Some old.rest.now) ≡ Some new.rest.now
  pub may : new.fault ≡ None → part.May found

-- one part, and then another
abbrev pub then_part : {X Y : Type 0} → SyntaxPart X → SyntaxPart Y → SyntaxPart (X × Y)
then_part one other = record {
  behind = λ both rest. other.behind both.1 (one.behind both.0 rest);
  May = λ both. one.May both.0 × other.May both.1;
  Same = λ a b. one.Same a.0 b.0 × other.Same a.1 b.1;
  ends = other.ends;
}

abbrev pub any_end : List Token → Bool
any_end rest = true

-- what comes next isn't this piece
abbrev pub lacks : Piece → List Token → Bool
lacks p rest = not (piece_begins p (Some rest))

abbrev pub Unknown : {X : Type 0} → X → X → Type 0
Unknown a b = Unit {0}

abbrev pub piece_part : Piece → SyntaxPart (Unit {0})
piece_part p = record { behind = λ none rest. after_piece p rest; May = λ none. Unit {0}; Same = Unknown; ends = any_end }

abbrev pub name_part : SyntaxPart ℕ
name_part = record { behind = λ k rest. after_piece (piece.Name k) rest; May = λ k. Unit {0}; Same = λ a b. a ≡ b; ends = any_end }

-- neither a name nor a number, and not the end of the text
abbrev pub is_plain : Piece → Bool
is_plain (piece.Name k) = false
is_plain (piece.Number n) = false
is_plain piece.TextEnd = false
is_plain p = true

abbrev pub value_part : Bool → SyntaxPart Expression
value_part in_parameter = record { behind = after_value; May = IsTreeWithin 32 in_parameter; Same = Unknown; ends = stops 4 }

abbrev pub condition_part : Bool → SyntaxPart Expression
condition_part in_parameter = record { behind = after_condition; May = IsTreeWithin 32 in_parameter; Same = Unknown; ends = stops 0 }

-- an index in brackets, or none
abbrev pub index_part : Bool → SyntaxPart (Option Expression)
index_part in_parameter =
    record { behind = after_index; May = MayValue in_parameter; Same = λ a b. is_some a ≡ is_some b; ends = lacks piece.OpenIndex }

-- a value, or a wildcard
abbrev pub wild_part : Bool → SyntaxPart (Option Expression)
wild_part in_parameter = record { behind = after_wild; May = MayValue in_parameter; Same = Unknown; ends = stops 4 }

-- a word and a value, or none
abbrev pub optional_part : Bool → Word → SyntaxPart (Option Expression)
optional_part in_parameter w = record {
  behind = after_optional (piece.Word w);
  May = MayValue in_parameter;
  Same = Unknown;
  ends = λ rest. stops 4 rest && lacks (piece.Word w) rest;
}

abbrev pub label_part : Bool → List (Vec ℕ) → SyntaxPart LabelForm
label_part in_parameter names =
    record { behind = after_label; May = MayLabel in_parameter names; Same = Unknown; ends = lacks piece.OpenIndex }

-- the request of a call that is started, or none
abbrev pub request_part : Bool → List (Vec ℕ) → Bool → SyntaxPart (Option LabelForm)
request_part in_parameter names started = record {
  behind = after_request;
  May = λ request. (is_some request ≡ started) × IfThere (MayLabel in_parameter names) request;
  Same = Unknown;
  ends = any_end;
}

-- requests, so many at most
abbrev pub labels_part : Bool → List (Vec ℕ) → ℕ → SyntaxPart Labels
labels_part in_parameter names most = record {
  behind = after_labels;
  May = λ labels. MayLabels in_parameter names labels × (count_labels labels ≤ most);
  Same = Unknown;
  ends = λ rest. lacks piece.OpenIndex rest && lacks piece.Comma rest;
}

abbrev pub group_part : Bool → SyntaxPart (Option GroupForm)
group_part in_parameter = record {
  behind = after_group;
  May = IfThere (MayGroup in_parameter);
  Same = Unknown;
  ends = λ rest. stops 4 rest && (lacks (piece.Word word.Among) rest && lacks (piece.Word word.Step) rest);
}

-- the root of a call that has one, or none
abbrev pub root_part : Bool → Bool → SyntaxPart (Option Expression)
root_part in_parameter rooted =
    record { behind = after_root; May = λ root. (has_root root ≡ rooted) × MayValue in_parameter root; Same = Unknown; ends = stops 4 }

-- what a call is by its word
abbrev pub form_of_call : Arguments → Form
form_of_call (call.Send mode request d t c) = form.Send mode (is_some request)
form_of_call (call.Receive request s t c) = form.Receive (is_some request)
form_of_call (call.MatchedProbe handle s t c) = form.MatchedProbe
form_of_call (call.Probe s t c) = form.Probe
form_of_call (call.MatchedReceive request handle) = form.MatchedReceive (is_some request)
form_of_call (call.Wait request) = form.Wait
form_of_call (call.SendReceive d t s u c) = form.SendReceive
form_of_call (call.Collective k root g c) = form.Collective k (is_rooted k)

-- a call of this form behind its word, up to the end of the line
abbrev pub arguments_part : Bool → List (Vec ℕ) → Form → SyntaxPart Arguments
arguments_part in_parameter names f = record {
  behind = after_arguments;
  May = λ c. (form_of_call c ≡ f) × MayCall in_parameter names c;
  Same = Unknown;
  ends = λ rest. piece_begins piece.LineEnd (Some rest);
}

-- a collective call has a root where it is to have one
abbrev pub HasRightRoot : Form → Type 0
HasRightRoot (form.Collective k rooted) = rooted ≡ is_rooted k
HasRightRoot _ = Unit {0}

-- what a word begins
abbrev pub syntax_form : Word → Option Form
syntax_form word.Send = Some (form.Send Standard false)
syntax_form word.Ssend = Some (form.Send Synchronous false)
syntax_form word.Bsend = Some (form.Send Buffered false)
syntax_form word.Isend = Some (form.Send Standard true)
syntax_form word.Issend = Some (form.Send Synchronous true)
syntax_form word.Ibsend = Some (form.Send Buffered true)
syntax_form word.Recv = Some (form.Receive false)
syntax_form word.Irecv = Some (form.Receive true)
syntax_form word.Probe = Some form.Probe
syntax_form word.Mprobe = Some form.MatchedProbe
syntax_form word.Mrecv = Some (form.MatchedReceive false)
syntax_form word.Imrecv = Some (form.MatchedReceive true)
syntax_form word.Sendrecv = Some form.SendReceive
syntax_form word.Wait = Some form.Wait
syntax_form word.Barrier = Some (form.Collective kind.Barrier false)
syntax_form word.Bcast = Some (form.Collective kind.Broadcast true)
syntax_form word.Reduce = Some (form.Collective kind.Reduce true)
syntax_form word.Allreduce = Some (form.Collective kind.AllReduce false)
syntax_form word.Gather = Some (form.Collective kind.Gather true)
syntax_form word.Scatter = Some (form.Collective kind.Scatter true)
syntax_form word.Allgather = Some (form.Collective kind.AllGather false)
syntax_form word.Alltoall = Some (form.Collective kind.AllToAll false)
syntax_form word.Scan = Some (form.Collective kind.Scan false)
syntax_form _ = None
