-- A line tells by its first piece of which kind it is.
use Rattle.std.proofs.Common.{◌≡◌, ◌⊎◌, ℕ, pos, true, false, not, nat_eq, List, [], ◌∷◌, ◌++◌, Some, None, refl, ap, sym, subst, ◌∙◌, inl, inr}
use Rattle.std.proofs.lemmas.List.{append_assoc, append-nil}
use Rattle.spmd_tree.specs.declared.tree.SpmdStatement.{SpmdStatement}
use Rattle.spmd_tree.specs.declared.tree.SpmdStatement.TheVariants as statement
use Rattle.spmd_text.specs.declared.calls.Form.{Form}
use Rattle.spmd_text.specs.declared.piece.Word.{Word}
use Rattle.spmd_text.specs.declared.piece.Word.TheVariants as word
use Rattle.spmd_text.specs.declared.piece.Piece.{Piece}
use Rattle.spmd_text.specs.declared.piece.Piece.TheVariants as piece
use Rattle.spmd_text.specs.declared.piece.Token.{Token}
use Rattle.spmd_text.specs.parts.Parts.{syntax_form, form_of_call}
use Rattle.spmd_text.specs.Spelling.{Rest, after_piece, after_condition, after_gap, after_optional, after_span, after_start, piece_begins, call_word, word_of_policy}
use Rattle.spmd_text.specs.parts.Statements.{first_word, is_one, is_simple}
use Rattle.spmd_text.specs.parts.Lines.{IsElifLine, IsElseLine, IsEndLine, IsHeading, IsIfLine, IsLoopLine, IsParameterLine, IsSpmdPolicyLine, IsSimpleLine, IsTextEnd, Level, Moves, Runs, Steps, behind_one, branch, done, headed, in_block, in_loop, last, listed, more, with_block, with_parameter}
use Rattle.spmd_text.specs.Lines.{closes, is_line}
use Rattle.spmd_text.specs.parts.Lines as lines
use Rattle.spmd_text.proofs.BlockForms.{not_so}
use Rattle.spmd_text.proofs.BlockWords.{condition_strict, one_begins, start_begins, taken_begins}
use Rattle.spmd_text.proofs.Following.{and_left, and_right}
use Rattle.spmd_text.proofs.Framing.{IsFull}
use Rattle.spmd_text.proofs.LeftOut.{gap_strict}
use Rattle.spmd_text.proofs.NoStar.{left_before}
use Rattle.spmd_text.proofs.Parts.{none_some}
use Rattle.spmd_text.proofs.Pieces.{piece_is, taken}
use Rattle.spmd_text.proofs.Starts.{form_of_word, start_left}
use Rattle.spmd_text.proofs.Strict.{after_of, none_of, optional_strict, value_of, value_strict}
use Rattle.spmd_text.proofs.WholeLines.{IsLineTaker, else_line, end_line, head_line, heading_line, loop_line, parameter_line, policy_line, simple_line, text_end_line}

pub data Kind : Type 0 where
  heading : Kind
  policy : Kind
  parameter : Kind
  simple : Kind
  repeat : Kind
  when : Kind
  chained : Kind
  otherwise : Kind
  end : Kind
  text_end : Kind

abbrev pub kind_of : Piece → Kind
kind_of (piece.Word word.Spmd) = heading
kind_of (piece.Word word.Policy) = policy
kind_of (piece.Word word.Param) = parameter
kind_of (piece.Word word.For) = repeat
kind_of (piece.Word word.If) = when
kind_of (piece.Word word.Elif) = chained
kind_of (piece.Word word.Else) = otherwise
kind_of (piece.Word word.End) = end
kind_of piece.TextEnd = text_end
kind_of _ = simple

abbrev pub kind_at : List Token → Kind
kind_at [] = simple
kind_at (t ∷ ts) = kind_of t.piece

abbrev pub ByKind : Kind → List Level → List Token → List Level → Type 0
ByKind heading = IsHeading
ByKind policy = IsSpmdPolicyLine
ByKind parameter = IsParameterLine
ByKind simple = IsSimpleLine
ByKind repeat = IsLoopLine
ByKind when = IsIfLine
ByKind chained = IsElifLine
ByKind otherwise = IsElseLine
ByKind end = IsEndLine
ByKind text_end = IsTextEnd

-- ---- the first piece of each kind

pub kind_begins : (p : Piece) (line : List Token) → piece_begins p (Some line) ≡ true → kind_at line ≡ kind_of p
kind_begins p [] e = absurd (let never : false ≡ true = e in cc)
kind_begins p (t ∷ ts) e = ap kind_of (piece_is p t.piece e)

call_simple : (v : Word) (f : Form) → syntax_form v ≡ Some f → kind_of (piece.Word v) ≡ simple
call_simple word.Spmd f e = absurd (let never : None ≡ Some f = e in cc)
call_simple word.Policy f e = absurd (let never : None ≡ Some f = e in cc)
call_simple word.Param f e = absurd (let never : None ≡ Some f = e in cc)
call_simple word.For f e = absurd (let never : None ≡ Some f = e in cc)
call_simple word.If f e = absurd (let never : None ≡ Some f = e in cc)
call_simple word.Elif f e = absurd (let never : None ≡ Some f = e in cc)
call_simple word.Else f e = absurd (let never : None ≡ Some f = e in cc)
call_simple word.End f e = absurd (let never : None ≡ Some f = e in cc)
call_simple v f e = refl

pub simple_kind : (s : SpmdStatement) → is_one s ≡ true → is_simple (first_word s) ≡ true → kind_of (piece.Word (first_word s)) ≡ simple
simple_kind statement.Nothing one is = absurd (let never : false ≡ true = one in cc)
simple_kind (statement.Sequence' p a q b) one is = absurd (let never : false ≡ true = one in cc)
simple_kind (statement.Parameter line name v) one is = absurd (let never : false ≡ true = one in cc)
simple_kind (statement.Assign line name v) one is = refl
simple_kind (statement.When' line true c p a q b) one is = absurd (let never : false ≡ true = is in cc)
simple_kind (statement.When' line false c p a q b) one is = absurd (let never : false ≡ true = is in cc)
simple_kind (statement.Otherwise' p a) one is = absurd (let never : false ≡ true = is in cc)
simple_kind (statement.Repeat' line name first final step p a) one is = absurd (let never : false ≡ true = is in cc)
simple_kind (statement.Call line c) one is = call_simple (call_word c) (form_of_call c) (form_of_word c)
simple_kind (statement.WaitAll line requests) one is = refl
simple_kind (statement.Unreached line) one is = refl

-- one word, and what takes the rest of the line
pub word_first : (F : Rest → Rest) → F None ≡ None → (w : Word) (line rest : List Token) → F (after_piece (piece.Word w) (Some line)) ≡ Some rest → piece_begins (piece.Word w) (Some line) ≡ true
word_first F strict w line rest e =
    let b = left_before F strict (after_piece (piece.Word w) (Some line)) rest e in taken_begins w line b.0 b.1

pub text_end_kind : (line rest : List Token) → after_piece piece.TextEnd (Some line) ≡ Some rest → kind_at line ≡ text_end
text_end_kind line rest e = let t = taken piece.TextEnd line rest e in ap kind_at t.here_is ∙ ap kind_of t.piece_so

of_kind : (k : Kind) (levels : List Level) (line : List Token) (next : List Level) → kind_at line ≡ k → ByKind k levels line next → ByKind (kind_at line) levels line next
of_kind k levels line next e h = subst (λ (z : Kind). ByKind z levels line next) (sym e) h

-- each step is of the kind that its line tells
pub by_kind : (levels : List Level) (line : List Token) (next : List Level) → Steps levels line next → ByKind (kind_at line) levels line next
by_kind levels line next (lines.heading h) = of_kind heading levels line next (kind_begins (piece.Word word.Spmd) line (word_first (after_piece piece.LineEnd) refl word.Spmd line [] h.spelled)) h
by_kind levels line next (lines.policy h) =
    of_kind policy levels line next (kind_begins (piece.Word word.Policy) line (word_first (λ z. after_piece piece.LineEnd (after_piece (piece.Word (word_of_policy h.policy)) z)) refl word.Policy line [] h.spelled)) h
by_kind levels line next (lines.parameter h) =
    of_kind parameter levels line next
    (kind_begins (piece.Word word.Param) line (start_begins (λ z. after_piece piece.LineEnd (after_optional piece.Equals h.value (after_piece (piece.Name h.name) z))) (after_of piece.LineEnd _ (optional_strict piece.Equals h.value)) h.number word.Param line [] h.spelled)) h
by_kind levels line next (lines.simple h) =
    of_kind simple levels line next (kind_begins (piece.Word (first_word h.statement)) line (one_begins h.statement h.may.one line [] h.spelled) ∙ simple_kind h.statement h.may.one h.simple) h
by_kind levels line next (lines.repeat h) =
    of_kind repeat levels line next
    (kind_begins (piece.Word word.For) line (start_begins (λ z. after_span h.span.first h.span.last (pos h.span.step) (after_piece piece.Equals (after_piece (piece.Name h.name) z)))
    (after_of piece.LineEnd _ (none_of (after_gap (pos h.span.step)) (gap_strict h.span.step) _ (value_of h.span.last _ (after_of (piece.Word word.To) _ (value_strict h.span.first))))) h.number word.For line [] h.spelled)) h
by_kind levels line next (lines.when h) =
    of_kind when levels line next
    (kind_begins (piece.Word word.If) line (start_begins (λ z. after_piece piece.LineEnd (after_condition h.condition z)) (after_of piece.LineEnd _ (condition_strict h.condition)) h.number word.If line [] h.spelled)) h
by_kind levels line next (lines.chained h) =
    of_kind chained levels line next
    (kind_begins (piece.Word word.Elif) line (start_begins (λ z. after_piece piece.LineEnd (after_condition h.condition z)) (after_of piece.LineEnd _ (condition_strict h.condition)) h.number word.Elif line [] h.spelled)) h
by_kind levels line next (lines.otherwise h) = of_kind otherwise levels line next (kind_begins (piece.Word word.Else) line (word_first (after_piece piece.LineEnd) refl word.Else line [] h.spelled)) h
by_kind levels line next (lines.end h) = of_kind end levels line next (kind_begins (piece.Word word.End) line (word_first (after_piece piece.LineEnd) refl word.End line [] h.spelled)) h
by_kind levels line next (lines.text_end h) = of_kind text_end levels line next (text_end_kind line [] h.spelled) h

-- ---- a step takes one line

whole : (f : Rest → Rest) → IsLineTaker f → (line : List Token) → f (Some line) ≡ Some [] → IsFull line
whole f takes line e = let a = takes.alone line [] e in subst IsFull (sym (append-nil a.line) ∙ sym a.split) a.full

-- a line that may stand somewhere is one in the text, or the end of it
pub step_full : (levels : List Level) (line : List Token) (next : List Level) → Steps levels line next → IsFull line ⊎ IsTextEnd levels line next
step_full levels line next (lines.heading h) = inl (whole _ heading_line line h.spelled)
step_full levels line next (lines.policy h) = inl (whole _ (policy_line h.policy) line h.spelled)
step_full levels line next (lines.parameter h) = inl (whole _ (parameter_line h.number h.name h.value) line h.spelled)
step_full levels line next (lines.simple h) = inl (whole _ (simple_line h.statement h.may.one h.simple) line h.spelled)
step_full levels line next (lines.repeat h) = inl (whole _ (loop_line h.number h.name h.span) line h.spelled)
step_full levels line next (lines.when h) = inl (whole _ (head_line h.number false h.condition) line h.spelled)
step_full levels line next (lines.chained h) = inl (whole _ (head_line h.number true h.condition) line h.spelled)
step_full levels line next (lines.otherwise h) = inl (whole _ else_line line h.spelled)
step_full levels line next (lines.end h) = inl (whole _ end_line line h.spelled)
step_full levels line next (lines.text_end h) = inr h

pub step_is_line : (levels : List Level) (line : List Token) (next : List Level) → Steps levels line next → is_line line ≡ true
step_is_line levels line next steps = by_form (step_full levels line next steps)
  where
    by_form : IsFull line ⊎ IsTextEnd levels line next → is_line line ≡ true
    by_form (inl full) = full.one
    by_form (inr h) = text_end_line line h.spelled

-- ---- where lines lead is determined

ends_once : (t u : Token) (ts : List Token) → closes t.piece ≡ true → is_line (t ∷ u ∷ ts) ≡ true → ⊥
ends_once t u ts ends one = let unended : closes t.piece ≡ false = not_so (closes t.piece) (and_left (not (closes t.piece)) (is_line (u ∷ ts)) one) in cc

behind_first : (t u : Token) (ts : List Token) → is_line (t ∷ u ∷ ts) ≡ true → is_line (u ∷ ts) ≡ true
behind_first t u ts one = and_right (not (closes t.piece)) (is_line (u ∷ ts)) one

-- two lines that pieces begin with are one
pub line_same : (a b xs ys : List Token) → is_line a ≡ true → is_line b ≡ true → a ++ xs ≡ b ++ ys → (a ≡ b) × (xs ≡ ys)
line_same [] b xs ys one other e = absurd (let never : false ≡ true = one in cc)
line_same (t ∷ a) [] xs ys one other e = absurd (let never : false ≡ true = other in cc)
line_same (t ∷ []) (u ∷ []) xs ys one other e =
    let same : t ∷ xs ≡ u ∷ ys = e in (ap (λ (v : Token). v ∷ []) (let first : t ≡ u = cc in first), let behind : xs ≡ ys = cc in behind)
line_same (t ∷ []) (u ∷ v ∷ b) xs ys one other e =
    let same : t ∷ xs ≡ u ∷ (v ∷ b) ++ ys = e in
    let first : t ≡ u = cc in absurd (ends_once u v b (ap (λ (w : Token). closes w.piece) (sym first) ∙ one) other)
line_same (t ∷ s ∷ a) (u ∷ []) xs ys one other e =
    let same : t ∷ (s ∷ a) ++ xs ≡ u ∷ ys = e in
    let first : t ≡ u = cc in absurd (ends_once t s a (ap (λ (w : Token). closes w.piece) first ∙ other) one)
line_same (t ∷ s ∷ a) (u ∷ v ∷ b) xs ys one other e =
    let same : t ∷ (s ∷ a) ++ xs ≡ u ∷ (v ∷ b) ++ ys = e in
    let first : t ≡ u = cc in
    let behind : (s ∷ a) ++ xs ≡ (v ∷ b) ++ ys = cc in
    let both = line_same (s ∷ a) (v ∷ b) xs ys (behind_first t s a one) (behind_first u v b other) behind in
    (ap (λ (w : Token). w ∷ s ∷ a) first ∙ ap (λ (ws : List Token). u ∷ ws) both.0, both.1)

-- the name behind the first word of a line
name_of : Piece → ℕ
name_of (piece.Name k) = k
name_of _ = 0

name_at : List Token → ℕ
name_at [] = 0
name_at (t ∷ []) = 0
name_at (t ∷ u ∷ ts) = name_of u.piece

next_by : Kind → List Level → List Token → List Level
next_by k [] line = []
next_by heading (l ∷ outer) line = with_block headed l ∷ outer
next_by policy (l ∷ outer) line = with_block listed l ∷ outer
next_by parameter (l ∷ outer) line = with_parameter (name_at line) l ∷ outer
next_by simple (l ∷ outer) line = behind_one l ∷ outer
next_by repeat (l ∷ outer) line = in_loop (name_at line) l ∷ behind_one l ∷ outer
next_by when (l ∷ outer) line = in_block branch l ∷ behind_one l ∷ outer
next_by chained (l ∷ outer) line = in_block branch l ∷ outer
next_by otherwise (l ∷ outer) line = with_block last l ∷ outer
next_by end (l ∷ outer) line = outer
next_by text_end (l ∷ outer) line = []

second_name : (number k : ℕ) (w : Word) (line between rest : List Token) → after_start number w (Some line) ≡ Some between → after_piece (piece.Name k) (Some between) ≡ Some rest → name_at line ≡ k
unfolding name_at name_of
second_name number k w [] between rest e f = absurd (none_some between e)
second_name number k w (t ∷ ts) between rest e f =
    let s = start_left (nat_eq t.line number) t w ts between e in
    let n = taken (piece.Name k) between rest f in
    ap (λ (xs : List Token). name_at (t ∷ xs)) (s.1 ∙ n.here_is) ∙ ap name_of n.piece_so

name_second : (F : Rest → Rest) → F None ≡ None → (number k : ℕ) (w : Word) (line rest : List Token) → F (after_piece (piece.Name k) (after_start number w (Some line))) ≡ Some rest → name_at line ≡ k
name_second F strict number k w line rest e =
    let outer = left_before F strict (after_piece (piece.Name k) (after_start number w (Some line))) rest e in
    let inner = left_before (after_piece (piece.Name k)) refl (after_start number w (Some line)) outer.0 outer.1 in
    second_name number k w line inner.0 outer.0 inner.1 (ap (after_piece (piece.Name k)) (sym inner.1) ∙ outer.1)

next_is : (k : Kind) (levels : List Level) (line : List Token) (next : List Level) → ByKind k levels line next → next ≡ next_by k levels line
unfolding next_by
next_is heading levels line next h = h.is ∙ ap (λ (ls : List Level). next_by heading ls line) (sym h.here)
next_is policy levels line next h = h.is ∙ ap (λ (ls : List Level). next_by policy ls line) (sym h.here)
next_is parameter levels line next h =
    let n = name_second (λ z. after_piece piece.LineEnd (after_optional piece.Equals h.value z)) (after_of piece.LineEnd _ (optional_strict piece.Equals h.value)) h.number h.name word.Param line [] h.spelled in
    h.is ∙ (ap (λ (k : ℕ). with_parameter k h.level ∷ h.outer) (sym n) ∙ ap (λ (ls : List Level). next_by parameter ls line) (sym h.here))
next_is simple levels line next h = h.is ∙ ap (λ (ls : List Level). next_by simple ls line) (sym h.here)
next_is repeat levels line next h =
    let n = name_second (λ z. after_span h.span.first h.span.last (pos h.span.step) (after_piece piece.Equals z))
    (after_of piece.LineEnd _ (none_of (after_gap (pos h.span.step)) (gap_strict h.span.step) _ (value_of h.span.last _ (after_of (piece.Word word.To) _ (value_strict h.span.first)))))
    h.number h.name word.For line [] h.spelled in
    h.is ∙ (ap (λ (k : ℕ). in_loop k h.level ∷ behind_one h.level ∷ h.outer) (sym n) ∙ ap (λ (ls : List Level). next_by repeat ls line) (sym h.here))
next_is when levels line next h = h.is ∙ ap (λ (ls : List Level). next_by when ls line) (sym h.here)
next_is chained levels line next h = h.is ∙ ap (λ (ls : List Level). next_by chained ls line) (sym h.here)
next_is otherwise levels line next h = h.is ∙ ap (λ (ls : List Level). next_by otherwise ls line) (sym h.here)
next_is end levels line next h = h.is ∙ ap (λ (ls : List Level). next_by end ls line) (sym h.here)
next_is text_end levels line next h = h.is ∙ ap (λ (ls : List Level). next_by text_end ls line) (sym h.here)

-- behind the end of the text nothing stands
pub none_leads : (line : List Token) (next : List Level) → Steps [] line next → next ≡ []
unfolding next_by
none_leads line next steps = next_is (kind_at line) [] line next (by_kind [] line next steps)

-- a line leads to one place
pub step_same : (levels : List Level) (line : List Token) (a b : List Level) → Steps levels line a → Steps levels line b → a ≡ b
step_same levels line a b one other =
    next_is (kind_at line) levels line a (by_kind levels line a one) ∙ sym (next_is (kind_at line) levels line b (by_kind levels line b other))

none_appended : (a b c : List Token) → is_line a ≡ true → (a ++ b) ++ c ≡ [] → ⊥
none_appended [] b c one e = let never : false ≡ true = one in cc
none_appended (t ∷ a) b c one e = let never : t ∷ (a ++ b) ++ c ≡ [] = e in cc

-- where lines lead is determined: behind them the others go on from there
pub runs_same : (reached levels final : List Level) (before behind : List Token) → Runs reached levels before → Runs final levels (before ++ behind) → Runs final reached behind
runs_same reached levels final before behind (done is none) other =
    subst (λ (ls : List Level). Runs final ls behind) is (subst (λ (xs : List Token). Runs final levels (xs ++ behind)) none other)
runs_same reached levels final before behind (more m r) (done is none) =
    absurd (none_appended m.line m.rest behind (step_is_line levels m.line m.next m.steps) (ap (λ (xs : List Token). xs ++ behind) (sym m.split) ∙ none))
runs_same reached levels final before behind (more m r) (more n q) =
    let first = line_same m.line n.line (m.rest ++ behind) n.rest (step_is_line levels m.line m.next m.steps) (step_is_line levels n.line n.next n.steps)
    (sym (append_assoc m.line m.rest behind) ∙ (ap (λ (xs : List Token). xs ++ behind) (sym m.split) ∙ n.split)) in
    let next = step_same levels m.line n.next m.next (subst (λ (xs : List Token). Steps levels xs n.next) (sym first.0) n.steps) m.steps in
    runs_same reached m.next final m.rest behind r (subst (λ (xs : List Token). Runs final m.next xs) (sym first.1) (subst (λ (ls : List Level). Runs final ls n.rest) next q))
