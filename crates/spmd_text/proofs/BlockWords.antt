-- Loops and branches, as they begin and as they are spelled.
use Rattle.std.proofs.Common.{◌≡◌, ℕ, pos, Bool, true, false, not, ◌&&◌, ◌||◌, nat_eq, List, [], ◌∷◌, Some, None, refl, ap, sym, ◌∙◌}
use Rattle.std.proofs.lemmas.Bool.{eq-eqb}
use Rattle.std.proofs.lemmas.Option.{same_Some}
use Rattle.spmd_tree.specs.declared.tree.Expression.{Expression}
use Rattle.spmd_tree.specs.declared.tree.SpmdStatement.{SpmdStatement}
use Rattle.spmd_tree.specs.declared.tree.SpmdStatement.TheVariants as statement
use Rattle.spmd_text.specs.declared.piece.Word.{Word}
use Rattle.spmd_text.specs.declared.piece.Word.TheVariants as word
use Rattle.spmd_text.specs.declared.piece.Piece.TheVariants as piece
use Rattle.spmd_text.specs.declared.piece.Token.{Token}
use Rattle.spmd_text.specs.Words.{code}
use Rattle.spmd_text.specs.parts.Joints.{Place}
use Rattle.spmd_text.specs.Spelling.{Rest, after_piece, after_arguments, after_condition, after_end, after_gap, after_labels, after_statement, after_value, piece_begins, branch_word, call_word, is_branch, is_piece, is_tail, on_line, only}
use Rattle.spmd_text.specs.parts.Parts.{syntax_form}
use Rattle.spmd_text.specs.parts.Statements.{ends_statements, first_word, is_one}
use Rattle.spmd_text.proofs.LeftOut.{gap_strict}
use Rattle.spmd_text.proofs.NoStar.{left_before, only_left}
use Rattle.spmd_text.proofs.Parts.{none_some}
use Rattle.spmd_text.proofs.Pieces.{piece_is}
use Rattle.spmd_text.proofs.Starts.{no_call, start_left, word_same}
use Rattle.spmd_text.proofs.Strict.{after_of, arguments_strict, expression_strict, labels_strict, none_of, only_of, optional_strict, value_of, value_strict}

-- ---- behind nothing stands nothing

pub condition_strict : (c : Expression) → after_condition c None ≡ None
condition_strict c = only_of _ _ (expression_strict c)

pub end_strict : (chained : Bool) → after_end chained None ≡ None
end_strict true = refl
end_strict false = refl

end_of : (chained : Bool) (z : Rest) → z ≡ None → after_end chained z ≡ None
end_of chained z e = none_of (after_end chained) (end_strict chained) z e

gap_of : (n : ℕ) (z : Rest) → z ≡ None → after_gap (pos n) z ≡ None
gap_of n z e = none_of (after_gap (pos n)) (gap_strict n) z e

pub statement_strict : (s : SpmdStatement) → after_statement s None ≡ None
statement_strict statement.Nothing = refl
statement_strict (statement.Sequence' p a q b) = only_of _ _ (none_of (after_statement b) (statement_strict b) _ (statement_strict a))
statement_strict (statement.Parameter line name e) = after_of piece.LineEnd _ (optional_strict piece.Equals e)
statement_strict (statement.Assign line name e) = after_of piece.LineEnd _ (value_strict e)
statement_strict (statement.When' line chained c p a q b) =
    only_of _ _ (end_of chained _ (none_of (after_statement b) (statement_strict b) _ (none_of (after_statement a) (statement_strict a) _ (after_of piece.LineEnd _ (condition_strict c)))))
statement_strict (statement.Otherwise' p a) = only_of _ _ (statement_strict a)
statement_strict (statement.Repeat' line name first last step p a) =
    only_of _ _ (end_of false _ (none_of (after_statement a) (statement_strict a) _ (after_of piece.LineEnd _ (gap_of step _ (value_of last _ (after_of (piece.Word word.To) _ (value_strict first)))))))
statement_strict (statement.Call line c) = after_of piece.LineEnd _ (arguments_strict c)
statement_strict (statement.WaitAll line requests) = after_of piece.LineEnd _ (labels_strict requests)
statement_strict (statement.Unreached line) = refl

-- ---- the word that comes first

pub begins_so : (t : Token) (ts : List Token) (w : Word) → t.piece ≡ piece.Word w → piece_begins (piece.Word w) (Some (t ∷ ts)) ≡ true
begins_so t ts w e = ap (is_piece (piece.Word w)) e ∙ eq-eqb (code (piece.Word w)) (code (piece.Word w)) refl

start_first : (l : ℕ) (w : Word) (here between : List Token) → after_piece (piece.Word w) (on_line l (Some here)) ≡ Some between → piece_begins (piece.Word w) (Some here) ≡ true
start_first l w [] between e = absurd (none_some between e)
start_first l w (t ∷ ts) between e = begins_so t ts w (start_left (nat_eq t.line l) t w ts between e).0

pub start_begins : (F : Rest → Rest) → F None ≡ None → (l : ℕ) (w : Word) (here rest : List Token) → F (after_piece (piece.Word w) (on_line l (Some here))) ≡ Some rest
    → piece_begins (piece.Word w) (Some here) ≡ true
start_begins F strict l w here rest e =
    let b = left_before F strict (after_piece (piece.Word w) (on_line l (Some here))) rest e in start_first l w here b.0 b.1

pub taken_begins : (p : Word) (here between : List Token) → after_piece (piece.Word p) (Some here) ≡ Some between → piece_begins (piece.Word p) (Some here) ≡ true
taken_begins p [] between e = absurd (none_some between e)
taken_begins p (t ∷ ts) between e = (only_left (is_piece (piece.Word p) t.piece) (Some ts) between e).0

-- a statement that stands here begins with its word
pub one_begins : (s : SpmdStatement) → is_one s ≡ true → (here rest : List Token) → after_statement s (Some here) ≡ Some rest → piece_begins (piece.Word (first_word s)) (Some here) ≡ true
one_begins statement.Nothing one here rest e = absurd (let never : false ≡ true = one in cc)
one_begins (statement.Sequence' p a q b) one here rest e = absurd (let never : false ≡ true = one in cc)
one_begins (statement.Parameter line name v) one here rest e = absurd (let never : false ≡ true = one in cc)
one_begins (statement.Assign line name v) one here rest e =
    start_begins (λ z. after_piece piece.LineEnd (after_value v (after_piece piece.Equals (after_piece (piece.Name name) z)))) (after_of piece.LineEnd _ (value_strict v)) line word.Let here rest e
one_begins (statement.When' line chained c p a q b) one here rest e =
    start_begins (λ z. only (not (is_branch a) && is_tail b) (after_end chained (after_statement b (after_statement a (after_piece piece.LineEnd (after_condition c z))))))
    (only_of _ _ (end_of chained _ (none_of (after_statement b) (statement_strict b) _ (none_of (after_statement a) (statement_strict a) _ (after_of piece.LineEnd _ (condition_strict c))))))
    line (branch_word chained) here rest e
one_begins (statement.Otherwise' p a) one here rest e =
    let inner = (only_left (not (is_branch a)) (after_statement a (after_piece piece.LineEnd (after_piece (piece.Word word.Else) (Some here)))) rest e).1 in
    let second = left_before (after_statement a) (statement_strict a) (after_piece piece.LineEnd (after_piece (piece.Word word.Else) (Some here))) rest inner in
    let first = left_before (after_piece piece.LineEnd) refl (after_piece (piece.Word word.Else) (Some here)) second.0 second.1 in
    taken_begins word.Else here first.0 first.1
one_begins (statement.Repeat' line name first last step p a) one here rest e =
    start_begins (λ z. only (not (is_branch a)) (after_end false (after_statement a (after_piece piece.LineEnd (after_gap (pos step) (after_value last (after_piece (piece.Word word.To) (after_value first (after_piece piece.Equals (after_piece (piece.Name name) z))))))))))
    (only_of _ _ (end_of false _ (none_of (after_statement a) (statement_strict a) _ (after_of piece.LineEnd _ (gap_of step _ (value_of last _ (after_of (piece.Word word.To) _ (value_strict first))))))))
    line word.For here rest e
one_begins (statement.Call line c) one here rest e =
    start_begins (λ z. after_piece piece.LineEnd (after_arguments c z)) (after_of piece.LineEnd _ (arguments_strict c)) line (call_word c) here rest e
one_begins (statement.WaitAll line requests) one here rest e =
    start_begins (λ z. after_piece piece.LineEnd (after_labels requests z)) (after_of piece.LineEnd _ (labels_strict requests)) line word.Waitall here rest e
one_begins (statement.Unreached line) one here rest e = start_begins (λ z. after_piece piece.LineEnd z) refl line word.Error here rest e

-- one word comes first
pub same_begin : (v w : Word) (here : List Token) → piece_begins (piece.Word v) (Some here) ≡ true → piece_begins (piece.Word w) (Some here) ≡ true → v ≡ w
same_begin v w [] e f = absurd (let never : false ≡ true = e in cc)
same_begin v w (t ∷ ts) e f = word_same v w (sym (piece_is (piece.Word v) t.piece e) ∙ piece_is (piece.Word w) t.piece f)

-- ---- what a word begins

is_branch_word : Word → Bool
is_branch_word word.If = true
is_branch_word word.Elif = true
is_branch_word _ = false

branch_words : (chained : Bool) → is_branch_word (branch_word chained) ≡ true
unfolding is_branch_word
branch_words true = refl
branch_words false = refl

no_branch_call : (chained : Bool) → syntax_form (branch_word chained) ≡ None
no_branch_call true = refl
no_branch_call false = refl

other_word : (v : Word) (chained : Bool) → is_branch_word v ≡ false → v ≡ branch_word chained → ⊥
other_word v chained none e = let never : false ≡ true = sym none ∙ (ap is_branch_word e ∙ branch_words chained) in cc

same_chained : (a b : Bool) → branch_word a ≡ branch_word b → a ≡ b
same_chained true true e = refl
same_chained false false e = refl
same_chained true false e = absurd (let never : word.Elif ≡ word.If = e in cc)
same_chained false true e = absurd (let never : word.If ≡ word.Elif = e in cc)

pub record IsBranch (chained : Bool) (s : SpmdStatement) : Type 0 where
  pub line : ℕ
  pub condition : Expression
  pub p : Place
  pub yes : SpmdStatement
  pub q : Place
  pub other : SpmdStatement
  pub is : s ≡ statement.When' line chained condition p yes q other

pub is_when : (chained : Bool) (s : SpmdStatement) → is_one s ≡ true → first_word s ≡ branch_word chained → IsBranch chained s
unfolding is_branch_word
is_when k statement.Nothing one e = absurd (let never : false ≡ true = one in cc)
is_when k (statement.Sequence' p a q b) one e = absurd (let never : false ≡ true = one in cc)
is_when k (statement.Parameter line name v) one e = absurd (let never : false ≡ true = one in cc)
is_when k (statement.Assign line name v) one e = absurd (other_word word.Let k refl e)
is_when k (statement.When' line chained c p a q b) one e =
    record { line = line; condition = c; p = p; yes = a; q = q; other = b; is = ap (λ (h : Bool). statement.When' line h c p a q b) (same_chained chained k e) }
is_when k (statement.Otherwise' p a) one e = absurd (other_word word.Else k refl e)
is_when k (statement.Repeat' line name first last step p a) one e = absurd (other_word word.For k refl e)
is_when k (statement.Call line c) one e = absurd (no_call c (branch_word k) (no_branch_call k) e)
is_when k (statement.WaitAll line requests) one e = absurd (other_word word.Waitall k refl e)
is_when k (statement.Unreached line) one e = absurd (other_word word.Error k refl e)

pub record IsElse (s : SpmdStatement) : Type 0 where
  pub p : Place
  pub inner : SpmdStatement
  pub is : s ≡ statement.Otherwise' p inner

pub is_else : (s : SpmdStatement) → is_one s ≡ true → first_word s ≡ word.Else → IsElse s
is_else statement.Nothing one e = absurd (let never : false ≡ true = one in cc)
is_else (statement.Sequence' p a q b) one e = absurd (let never : false ≡ true = one in cc)
is_else (statement.Parameter line name v) one e = absurd (let never : false ≡ true = one in cc)
is_else (statement.Assign line name v) one e = absurd (let never : word.Let ≡ word.Else = e in cc)
is_else (statement.When' line true c p a q b) one e = absurd (let never : word.Elif ≡ word.Else = e in cc)
is_else (statement.When' line false c p a q b) one e = absurd (let never : word.If ≡ word.Else = e in cc)
is_else (statement.Otherwise' p a) one e = record { p = p; inner = a; is = refl }
is_else (statement.Repeat' line name first last step p a) one e = absurd (let never : word.For ≡ word.Else = e in cc)
is_else (statement.Call line c) one e = absurd (no_call c word.Else refl e)
is_else (statement.WaitAll line requests) one e = absurd (let never : word.Waitall ≡ word.Else = e in cc)
is_else (statement.Unreached line) one e = absurd (let never : word.Error ≡ word.Else = e in cc)

pub record IsLoop (s : SpmdStatement) : Type 0 where
  pub line : ℕ
  pub name : ℕ
  pub first : Expression
  pub last : Expression
  pub step : ℕ
  pub p : Place
  pub body : SpmdStatement
  pub is : s ≡ statement.Repeat' line name first last step p body

pub is_loop : (s : SpmdStatement) → is_one s ≡ true → first_word s ≡ word.For → IsLoop s
is_loop statement.Nothing one e = absurd (let never : false ≡ true = one in cc)
is_loop (statement.Sequence' p a q b) one e = absurd (let never : false ≡ true = one in cc)
is_loop (statement.Parameter line name v) one e = absurd (let never : false ≡ true = one in cc)
is_loop (statement.Assign line name v) one e = absurd (let never : word.Let ≡ word.For = e in cc)
is_loop (statement.When' line true c p a q b) one e = absurd (let never : word.Elif ≡ word.For = e in cc)
is_loop (statement.When' line false c p a q b) one e = absurd (let never : word.If ≡ word.For = e in cc)
is_loop (statement.Otherwise' p a) one e = absurd (let never : word.Else ≡ word.For = e in cc)
is_loop (statement.Repeat' line name first last step p a) one e = record { line = line; name = name; first = first; last = last; step = step; p = p; body = a; is = refl }
is_loop (statement.Call line c) one e = absurd (no_call c word.For refl e)
is_loop (statement.WaitAll line requests) one e = absurd (let never : word.Waitall ≡ word.For = e in cc)
is_loop (statement.Unreached line) one e = absurd (let never : word.Error ≡ word.For = e in cc)

-- ---- what ends statements

or_left : (a b : Bool) → a ≡ true → (a || b) ≡ true
or_left true b e = refl
or_left false b e = absurd (let never : false ≡ true = e in cc)

pub or_right : (a b : Bool) → b ≡ true → (a || b) ≡ true
or_right true b e = refl
or_right false b e = e

pub end_ends : (rest : List Token) → piece_begins (piece.Word word.End) (Some rest) ≡ true → ends_statements rest ≡ true
end_ends rest e = or_left _ _ (or_left (piece_begins (piece.Word word.End) (Some rest)) (piece_begins (piece.Word word.Else) (Some rest)) e)

pub else_ends : (rest : List Token) → piece_begins (piece.Word word.Else) (Some rest) ≡ true → ends_statements rest ≡ true
else_ends rest e = or_left _ _ (or_right (piece_begins (piece.Word word.End) (Some rest)) (piece_begins (piece.Word word.Else) (Some rest)) e)

pub elif_ends : (rest : List Token) → piece_begins (piece.Word word.Elif) (Some rest) ≡ true → ends_statements rest ≡ true
elif_ends rest e = or_right _ _ (or_left (piece_begins (piece.Word word.Elif) (Some rest)) (piece_begins piece.TextEnd (Some rest)) e)

-- statements end before a branch behind them, or before what stands behind it
pub tail_ends : (s : SpmdStatement) (here rest : List Token) → is_tail s ≡ true → after_statement s (Some here) ≡ Some rest → piece_begins (piece.Word word.End) (Some rest) ≡ true
    → ends_statements here ≡ true
unfolding is_tail
tail_ends statement.Nothing here rest tail e ends = ap ends_statements (same_Some here rest e) ∙ end_ends rest ends
tail_ends (statement.Sequence' p a q b) here rest tail e ends = absurd (let never : false ≡ true = tail in cc)
tail_ends (statement.Parameter line name v) here rest tail e ends = absurd (let never : false ≡ true = tail in cc)
tail_ends (statement.Assign line name v) here rest tail e ends = absurd (let never : false ≡ true = tail in cc)
tail_ends (statement.When' line true c p a q b) here rest tail e ends = elif_ends here (one_begins (statement.When' line true c p a q b) refl here rest e)
tail_ends (statement.When' line false c p a q b) here rest tail e ends = absurd (let never : false ≡ true = tail in cc)
tail_ends (statement.Otherwise' p a) here rest tail e ends = else_ends here (one_begins (statement.Otherwise' p a) refl here rest e)
tail_ends (statement.Repeat' line name first last step p a) here rest tail e ends = absurd (let never : false ≡ true = tail in cc)
tail_ends (statement.Call line c) here rest tail e ends = absurd (let never : false ≡ true = tail in cc)
tail_ends (statement.WaitAll line requests) here rest tail e ends = absurd (let never : false ≡ true = tail in cc)
tail_ends (statement.Unreached line) here rest tail e ends = absurd (let never : false ≡ true = tail in cc)
