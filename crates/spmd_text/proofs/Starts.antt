-- A statement begins with its word, behind which the rest of it stands.
use Rattle.std.proofs.Common.{◌≡◌, ℕ, Bool, true, false, nat_eq, List, ◌∷◌, Option, Some, None, refl, ap, sym, subst, ◌∙◌}
use Rattle.std.proofs.lemmas.Bool.{eq-eqb}
use Rattle.std.proofs.lemmas.Option.{same_Some}
use Rattle.spmd_tree.specs.declared.tree.SendMode.TheVariants.{Standard, Synchronous, Buffered}
use Rattle.spmd_tree.specs.declared.tree.CollectiveKind.TheVariants as kind
use Rattle.spmd_tree.specs.declared.tree.Expression.{Expression}
use Rattle.spmd_tree.specs.declared.tree.Labels.{Labels}
use Rattle.spmd_tree.specs.declared.tree.Arguments.{Arguments}
use Rattle.spmd_tree.specs.declared.tree.Arguments.TheVariants as call
use Rattle.spmd_tree.specs.declared.tree.SpmdStatement.{SpmdStatement}
use Rattle.spmd_tree.specs.declared.tree.SpmdStatement.TheVariants as statement
use Rattle.spmd_text.specs.declared.calls.Form.{Form}
use Rattle.spmd_text.specs.declared.calls.Form.TheVariants as form
use Rattle.spmd_text.specs.declared.piece.Word.{Word}
use Rattle.spmd_text.specs.declared.piece.Word.TheVariants as word
use Rattle.spmd_text.specs.declared.piece.Piece.TheVariants as piece
use Rattle.spmd_text.specs.declared.piece.Token.{Token}
use Rattle.spmd_text.specs.Words.{code}
use Rattle.spmd_text.specs.Spelling.{Rest, after_piece, after_start, call_word, is_piece, kind_word, only}
use Rattle.spmd_text.specs.parts.Parts.{syntax_form, form_of_call}
use Rattle.spmd_text.specs.parts.Statements.{first_word, is_call_word, is_one, is_simple, put_back}
use Rattle.spmd_text.proofs.NoStar.{left_before, only_left}
use Rattle.spmd_text.proofs.Parts.{none_some}
use Rattle.spmd_text.proofs.Pieces.{piece_is}

pub word_same : (v w : Word) → piece.Word v ≡ piece.Word w → v ≡ w
word_same v w e = cc

-- the first word and what is left behind it
pub start_left : (fits : Bool) (t : Token) (w : Word) (here before : List Token) → after_piece (piece.Word w) (only fits (Some (t ∷ here))) ≡ Some before
    → (t.piece ≡ piece.Word w) × (here ≡ before)
start_left true t w here before e =
    let o = only_left (is_piece (piece.Word w) t.piece) (Some here) before e in
    (piece_is (piece.Word w) t.piece o.0, same_Some here before o.1)
start_left false t w here before e = absurd (none_some before e)

pub start_behind : (F : Rest → Rest) → F None ≡ None → (l line : ℕ) (w v : Word) (here rest : List Token)
    → F (after_start l w (put_back line v (Some here))) ≡ Some rest → F (Some here) ≡ Some rest
start_behind F strict l line w v here rest e =
    let b = left_before F strict (after_start l w (put_back line v (Some here))) rest e in
    let s = start_left (nat_eq line l) (record { line = line; piece = piece.Word v }) w here b.0 b.1 in
    ap (λ (xs : List Token). F (Some xs)) s.1 ∙ (ap F (sym b.1) ∙ e)

pub start_same : (line : ℕ) (w : Word) (here : List Token) → after_start line w (put_back line w (Some here)) ≡ Some here
start_same line w here =
    ap (λ (b : Bool). after_piece (piece.Word w) (only b (Some (record { line = line; piece = piece.Word w } ∷ here)))) (eq-eqb line line refl)
    ∙ ap (λ (b : Bool). only b (Some here)) (eq-eqb (code (piece.Word w)) (code (piece.Word w)) refl)

-- ---- the word of a call

pub form_of_word : (c : Arguments) → syntax_form (call_word c) ≡ Some (form_of_call c)
form_of_word (call.Send Standard None d t c) = refl
form_of_word (call.Send Standard (Some f) d t c) = refl
form_of_word (call.Send Synchronous None d t c) = refl
form_of_word (call.Send Synchronous (Some f) d t c) = refl
form_of_word (call.Send Buffered None d t c) = refl
form_of_word (call.Send Buffered (Some f) d t c) = refl
form_of_word (call.Receive None s t c) = refl
form_of_word (call.Receive (Some f) s t c) = refl
form_of_word (call.MatchedProbe handle s t c) = refl
form_of_word (call.Probe s t c) = refl
form_of_word (call.MatchedReceive None handle) = refl
form_of_word (call.MatchedReceive (Some f) handle) = refl
form_of_word (call.Wait request) = refl
form_of_word (call.SendReceive d t s u c) = refl
form_of_word (call.Collective kind.Barrier root g c) = refl
form_of_word (call.Collective kind.Broadcast root g c) = refl
form_of_word (call.Collective kind.Reduce root g c) = refl
form_of_word (call.Collective kind.AllReduce root g c) = refl
form_of_word (call.Collective kind.Gather root g c) = refl
form_of_word (call.Collective kind.Scatter root g c) = refl
form_of_word (call.Collective kind.AllGather root g c) = refl
form_of_word (call.Collective kind.AllToAll root g c) = refl
form_of_word (call.Collective kind.Scan root g c) = refl

pub no_call : (c : Arguments) (w : Word) → syntax_form w ≡ None → call_word c ≡ w → ⊥
no_call c w none e = none_some (form_of_call c) (sym none ∙ (ap syntax_form (sym e) ∙ form_of_word c))

-- the word of a form
word_of_form : Form → Word
word_of_form (form.Send Standard false) = word.Send
word_of_form (form.Send Standard true) = word.Isend
word_of_form (form.Send Synchronous false) = word.Ssend
word_of_form (form.Send Synchronous true) = word.Issend
word_of_form (form.Send Buffered false) = word.Bsend
word_of_form (form.Send Buffered true) = word.Ibsend
word_of_form (form.Receive false) = word.Recv
word_of_form (form.Receive true) = word.Irecv
word_of_form form.Probe = word.Probe
word_of_form form.MatchedProbe = word.Mprobe
word_of_form (form.MatchedReceive false) = word.Mrecv
word_of_form (form.MatchedReceive true) = word.Imrecv
word_of_form form.SendReceive = word.Sendrecv
word_of_form form.Wait = word.Wait
word_of_form (form.Collective k rooted) = kind_word k

OfForm : Option Form → Word → Type 0
OfForm None w = Unit {0}
OfForm (Some f) w = word_of_form f ≡ w

of_word : (w : Word) → OfForm (syntax_form w) w
unfolding word_of_form OfForm
of_word word.Send = refl
of_word word.Ssend = refl
of_word word.Bsend = refl
of_word word.Isend = refl
of_word word.Issend = refl
of_word word.Ibsend = refl
of_word word.Recv = refl
of_word word.Irecv = refl
of_word word.Probe = refl
of_word word.Mprobe = refl
of_word word.Mrecv = refl
of_word word.Imrecv = refl
of_word word.Sendrecv = refl
of_word word.Wait = refl
of_word word.Barrier = refl
of_word word.Bcast = refl
of_word word.Reduce = refl
of_word word.Allreduce = refl
of_word word.Gather = refl
of_word word.Scatter = refl
of_word word.Allgather = refl
of_word word.Alltoall = refl
of_word word.Scan = refl
of_word w = tt

of_call : (c : Arguments) → word_of_form (form_of_call c) ≡ call_word c
unfolding word_of_form
of_call (call.Send Standard None d t c) = refl
of_call (call.Send Standard (Some f) d t c) = refl
of_call (call.Send Synchronous None d t c) = refl
of_call (call.Send Synchronous (Some f) d t c) = refl
of_call (call.Send Buffered None d t c) = refl
of_call (call.Send Buffered (Some f) d t c) = refl
of_call (call.Receive None s t c) = refl
of_call (call.Receive (Some f) s t c) = refl
of_call (call.MatchedProbe handle s t c) = refl
of_call (call.Probe s t c) = refl
of_call (call.MatchedReceive None handle) = refl
of_call (call.MatchedReceive (Some f) handle) = refl
of_call (call.Wait request) = refl
of_call (call.SendReceive d t s u c) = refl
of_call (call.Collective k root g c) = refl

-- a call of the form that the word begins has this word
pub word_of_call : (w : Word) (f : Form) (c : Arguments) → syntax_form w ≡ Some f → form_of_call c ≡ f → call_word c ≡ w
unfolding OfForm
word_of_call w f c is same =
    let back : word_of_form f ≡ w = subst (λ (o : Option Form). OfForm o w) is (of_word w) in
    sym (of_call c) ∙ (ap word_of_form same ∙ back)

-- ---- what a word begins

pub record IsAssign (s : SpmdStatement) : Type 0 where
  pub line : ℕ
  pub name : ℕ
  pub value : Expression
  pub is : s ≡ statement.Assign line name value

pub is_assign : (s : SpmdStatement) → is_one s ≡ true → first_word s ≡ word.Let → IsAssign s
is_assign statement.Nothing one e = absurd (let never : false ≡ true = one in cc)
is_assign (statement.Sequence' p a q b) one e = absurd (let never : false ≡ true = one in cc)
is_assign (statement.Parameter line name v) one e = absurd (let never : false ≡ true = one in cc)
is_assign (statement.Assign line name v) one e = record { line = line; name = name; value = v; is = refl }
is_assign (statement.When' line true c p a q b) one e = absurd (let never : word.Elif ≡ word.Let = e in cc)
is_assign (statement.When' line false c p a q b) one e = absurd (let never : word.If ≡ word.Let = e in cc)
is_assign (statement.Otherwise' p a) one e = absurd (let never : word.Else ≡ word.Let = e in cc)
is_assign (statement.Repeat' line name first last step p a) one e = absurd (let never : word.For ≡ word.Let = e in cc)
is_assign (statement.Call line c) one e = absurd (no_call c word.Let refl e)
is_assign (statement.WaitAll line requests) one e = absurd (let never : word.Waitall ≡ word.Let = e in cc)
is_assign (statement.Unreached line) one e = absurd (let never : word.Error ≡ word.Let = e in cc)

pub record IsUnreached (s : SpmdStatement) : Type 0 where
  pub line : ℕ
  pub is : s ≡ statement.Unreached line

pub is_unreached : (s : SpmdStatement) → is_one s ≡ true → first_word s ≡ word.Error → IsUnreached s
is_unreached statement.Nothing one e = absurd (let never : false ≡ true = one in cc)
is_unreached (statement.Sequence' p a q b) one e = absurd (let never : false ≡ true = one in cc)
is_unreached (statement.Parameter line name v) one e = absurd (let never : false ≡ true = one in cc)
is_unreached (statement.Assign line name v) one e = absurd (let never : word.Let ≡ word.Error = e in cc)
is_unreached (statement.When' line true c p a q b) one e = absurd (let never : word.Elif ≡ word.Error = e in cc)
is_unreached (statement.When' line false c p a q b) one e = absurd (let never : word.If ≡ word.Error = e in cc)
is_unreached (statement.Otherwise' p a) one e = absurd (let never : word.Else ≡ word.Error = e in cc)
is_unreached (statement.Repeat' line name first last step p a) one e = absurd (let never : word.For ≡ word.Error = e in cc)
is_unreached (statement.Call line c) one e = absurd (no_call c word.Error refl e)
is_unreached (statement.WaitAll line requests) one e = absurd (let never : word.Waitall ≡ word.Error = e in cc)
is_unreached (statement.Unreached line) one e = record { line = line; is = refl }

pub record IsWaitAll (s : SpmdStatement) : Type 0 where
  pub line : ℕ
  pub requests : Labels
  pub is : s ≡ statement.WaitAll line requests

pub is_wait_all : (s : SpmdStatement) → is_one s ≡ true → first_word s ≡ word.Waitall → IsWaitAll s
is_wait_all statement.Nothing one e = absurd (let never : false ≡ true = one in cc)
is_wait_all (statement.Sequence' p a q b) one e = absurd (let never : false ≡ true = one in cc)
is_wait_all (statement.Parameter line name v) one e = absurd (let never : false ≡ true = one in cc)
is_wait_all (statement.Assign line name v) one e = absurd (let never : word.Let ≡ word.Waitall = e in cc)
is_wait_all (statement.When' line true c p a q b) one e = absurd (let never : word.Elif ≡ word.Waitall = e in cc)
is_wait_all (statement.When' line false c p a q b) one e = absurd (let never : word.If ≡ word.Waitall = e in cc)
is_wait_all (statement.Otherwise' p a) one e = absurd (let never : word.Else ≡ word.Waitall = e in cc)
is_wait_all (statement.Repeat' line name first last step p a) one e = absurd (let never : word.For ≡ word.Waitall = e in cc)
is_wait_all (statement.Call line c) one e = absurd (no_call c word.Waitall refl e)
is_wait_all (statement.WaitAll line requests) one e = record { line = line; requests = requests; is = refl }
is_wait_all (statement.Unreached line) one e = absurd (let never : word.Error ≡ word.Waitall = e in cc)

pub record IsCall (s : SpmdStatement) : Type 0 where
  pub line : ℕ
  pub arguments : Arguments
  pub is : s ≡ statement.Call line arguments

calls_not : (v w : Word) → is_call_word v ≡ false → v ≡ w → is_call_word w ≡ true → ⊥
calls_not v w none same calls = let never : false ≡ true = sym none ∙ (ap is_call_word same ∙ calls) in cc

pub is_a_call : (s : SpmdStatement) (w : Word) → is_call_word w ≡ true → is_one s ≡ true → first_word s ≡ w → IsCall s
is_a_call statement.Nothing w calls one e = absurd (let never : false ≡ true = one in cc)
is_a_call (statement.Sequence' p a q b) w calls one e = absurd (let never : false ≡ true = one in cc)
is_a_call (statement.Parameter line name v) w calls one e = absurd (let never : false ≡ true = one in cc)
is_a_call (statement.Assign line name v) w calls one e = absurd (calls_not word.Let w refl e calls)
is_a_call (statement.When' line true c p a q b) w calls one e = absurd (calls_not word.Elif w refl e calls)
is_a_call (statement.When' line false c p a q b) w calls one e = absurd (calls_not word.If w refl e calls)
is_a_call (statement.Otherwise' p a) w calls one e = absurd (calls_not word.Else w refl e calls)
is_a_call (statement.Repeat' line name first last step p a) w calls one e = absurd (calls_not word.For w refl e calls)
is_a_call (statement.Call line c) w calls one e = record { line = line; arguments = c; is = refl }
is_a_call (statement.WaitAll line requests) w calls one e = absurd (calls_not word.Waitall w refl e calls)
is_a_call (statement.Unreached line) w calls one e = absurd (calls_not word.Error w refl e calls)

pub simple_call : (w : Word) → is_simple w ≡ true → (w ≡ word.Let → ⊥) → (w ≡ word.Error → ⊥) → (w ≡ word.Waitall → ⊥) → is_call_word w ≡ true
simple_call word.Let simple a b d = absurd (a refl)
simple_call word.Error simple a b d = absurd (b refl)
simple_call word.Waitall simple a b d = absurd (d refl)
simple_call w simple a b d = simple
