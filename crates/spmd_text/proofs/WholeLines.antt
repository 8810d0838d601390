-- What stands on one line is read to its end and no further, whatever stands behind it.
use Rattle.std.proofs.Common.{◌≡◌, ℕ, ℤ, pos, Bool, true, false, ◌||◌, List, [], ◌∷◌, ◌++◌, Option, Some, None, refl, ap, sym, ◌∙◌, if◌then◌else◌}
use Rattle.std.proofs.lemmas.Bool.{false≢true}
use Rattle.std.proofs.lemmas.List.{append_assoc, append-nil}
use Rattle.std.proofs.lemmas.Option.{same_Some}
use Rattle.spmd_tree.specs.declared.tree.Expression.{Expression}
use Rattle.spmd_tree.specs.declared.tree.SpmdStatement.{SpmdStatement}
use Rattle.spmd_tree.specs.declared.tree.SpmdStatement.TheVariants as statement
use Rattle.spmd_text.specs.declared.lines.Span.{Span}
use Rattle.spmd_text.specs.declared.piece.Word.{Word}
use Rattle.spmd_text.specs.declared.piece.Word.TheVariants as word
use Rattle.spmd_text.specs.declared.piece.Piece.{Piece}
use Rattle.spmd_text.specs.declared.piece.Piece.TheVariants as piece
use Rattle.spmd_text.specs.declared.piece.Token.{Token}
use Rattle.spmd_text.specs.declared.reading.SpmdPolicy.{SpmdPolicy}
use Rattle.spmd_text.specs.Spelling.{Rest, after_piece, after_end, after_gap, after_head, after_parameter, after_span, after_statement, after_variable, branch_word, call_word, is_piece, only, word_of_policy, same_number}
use Rattle.spmd_text.specs.parts.Statements.{first_word, is_one, is_simple}
use Rattle.spmd_text.specs.parts.Lines.{is_text_end}
use Rattle.spmd_text.specs.Lines.{closes, is_line}
use Rattle.spmd_text.proofs.Framing.{Framed, IsFull, framed_arguments, framed_condition, framed_labels, framed_on, framed_optional, framed_piece, framed_start, framed_value, framed_word, one_before}
use Rattle.spmd_text.proofs.LeftOut.{gap_strict}
use Rattle.spmd_text.proofs.NoStar.{left_before, only_left}
use Rattle.spmd_text.proofs.Parts.{none_some}
use Rattle.spmd_text.proofs.Pieces.{piece_is, taken}

-- these pieces begin with one line, which it takes whole
pub record Alone (f : Rest → Rest) (here rest : List Token) : Type 0 where
  pub line : List Token
  pub split : here ≡ line ++ rest
  pub full : IsFull line
  pub spelled : f (Some line) ≡ Some []

-- what takes one line: what stands behind the line doesn't matter
pub record IsLineTaker (f : Rest → Rest) : Type 0 where
  pub alone : (here rest : List Token) → f (Some here) ≡ Some rest → Alone f here rest
  pub more : (line rest : List Token) → f (Some line) ≡ Some [] → f (Some (line ++ rest)) ≡ Some rest

-- ---- up to the end of a line

-- this line it reads, whatever stands behind it
record Ended (f : Rest → Rest) (here rest : List Token) : Type 0 where
  line : List Token
  split : here ≡ line ++ rest
  full : IsFull line
  alone : (other : List Token) → f (Some (line ++ other)) ≡ Some other

record Ends (f : Rest → Rest) : Type 0 where
  strict : f None ≡ None
  ended : (here rest : List Token) → f (Some here) ≡ Some rest → Ended f here rest

-- what stands on the line, and then its end
behind_held : {f g : Rest → Rest} → Framed f → Ends g → Ends (λ z. g (f z))
behind_held {f} {g} one other = record { strict = ap g one.strict ∙ other.strict; ended = ended }
  where
    ended : (here rest : List Token) → g (f (Some here)) ≡ Some rest → Ended (λ z. g (f z)) here rest
    ended here rest e =
        let b = left_before g other.strict (f (Some here)) rest e in
        let a = one.held here b.0 b.1 in
        let c = other.ended b.0 rest (ap g (sym b.1) ∙ e) in
        record {
          line = a.read ++ c.line;
          split = a.split ∙ (ap (λ (xs : List Token). a.read ++ xs) c.split ∙ sym (append_assoc a.read c.line rest));
          full = a.opens c.line c.full;
          alone = λ more.
              ap (λ (xs : List Token). g (f (Some xs))) (append_assoc a.read c.line more) ∙ (ap g (a.alone (c.line ++ more)) ∙ c.alone more);
        }

-- the first piece ends the line
end_full : (t : Token) → is_piece piece.LineEnd t.piece ≡ true → IsFull (t ∷ [])
end_full t e =
    let is = piece_is piece.LineEnd t.piece e in record { one = ap closes is; inner = ap (λ (p : Piece). is_text_end p || false) is }

line_ends : Ends (after_piece piece.LineEnd)
line_ends = record { strict = refl; ended = ended }
  where
    ended : (here rest : List Token) → after_piece piece.LineEnd (Some here) ≡ Some rest → Ended (after_piece piece.LineEnd) here rest
    ended [] rest e = absurd (none_some rest e)
    ended (t ∷ ts) rest e =
        let o = only_left (is_piece piece.LineEnd t.piece) (Some ts) rest e in
        record {
          line = t ∷ [];
          split = ap (λ (xs : List Token). t ∷ xs) (same_Some ts rest o.1);
          full = end_full t o.0;
          alone = λ other. ap (λ (b : Bool). only b (Some other)) o.0;
        }

-- the step of a loop and the end of the line, where the first piece is the word of a step or not
abbrev gap_by : Bool → ℤ → Rest → Rest
gap_by next n z = after_piece piece.LineEnd (if next then after_piece (piece.Number n) (after_piece (piece.Word word.Step) z) else only (same_number n (pos 1)) z)

gap_first : (n : ℤ) (next : Bool) (t : Token) (ts rest : List Token) → is_piece (piece.Word word.Step) t.piece ≡ next → gap_by next n (Some (t ∷ ts)) ≡ Some rest
    → Ended (λ z. after_piece piece.LineEnd (after_gap n z)) (t ∷ ts) rest
gap_first n true t ts rest is e =
    let step : Framed (after_piece (piece.Word word.Step)) = framed_word word.Step in
    let whole : Ends (λ z. after_piece piece.LineEnd (after_piece (piece.Number n) z)) = behind_held (framed_piece (piece.Number n) refl) line_ends in
    let b = left_before (λ z. after_piece piece.LineEnd (after_piece (piece.Number n) z)) refl (after_piece (piece.Word word.Step) (Some (t ∷ ts))) rest e in
    let o = only_left (is_piece (piece.Word word.Step) t.piece) (Some ts) b.0 b.1 in
    let c = whole.ended b.0 rest (ap (λ (z : Rest). after_piece piece.LineEnd (after_piece (piece.Number n) z)) (sym b.1) ∙ e) in
    record {
      line = t ∷ c.line;
      split = ap (λ (xs : List Token). t ∷ xs) (same_Some ts b.0 o.1 ∙ c.split);
      full = one_before t (ap closes (piece_is (piece.Word word.Step) t.piece o.0)) c.line c.full;
      alone = λ other.
          ap (λ (k : Bool). gap_by k n (Some (t ∷ (c.line ++ other)))) is
          ∙ (ap (λ (k : Bool). after_piece piece.LineEnd (after_piece (piece.Number n) (only k (Some (c.line ++ other))))) o.0 ∙ c.alone other);
    }
gap_first n false t ts rest is e =
    let b = left_before (after_piece piece.LineEnd) refl (only (same_number n (pos 1)) (Some (t ∷ ts))) rest e in
    let s = only_left (same_number n (pos 1)) (Some (t ∷ ts)) b.0 b.1 in
    let o = only_left (is_piece piece.LineEnd t.piece) (Some ts) rest (ap (after_piece piece.LineEnd) (s.1 ∙ sym b.1) ∙ e) in
    record {
      line = t ∷ [];
      split = ap (λ (xs : List Token). t ∷ xs) (same_Some ts rest o.1);
      full = end_full t o.0;
      alone = λ other.
          ap (λ (k : Bool). gap_by k n (Some (t ∷ other))) is
          ∙ (ap (λ (k : Bool). after_piece piece.LineEnd (only k (Some (t ∷ other)))) s.0 ∙ ap (λ (k : Bool). only k (Some other)) o.0);
    }

-- no line ends where nothing is left
nothing_left : (b : Bool) → after_piece piece.LineEnd (only b (Some [])) ≡ None
nothing_left true = refl
nothing_left false = refl

gap_ends : (n : ℕ) → Ends (λ z. after_piece piece.LineEnd (after_gap (pos n) z))
gap_ends n = record { strict = ap (after_piece piece.LineEnd) (gap_strict n); ended = ended }
  where
    ended : (here rest : List Token) → after_piece piece.LineEnd (after_gap (pos n) (Some here)) ≡ Some rest → Ended (λ z. after_piece piece.LineEnd (after_gap (pos n) z)) here rest
    ended [] rest e = absurd (none_some rest (sym (nothing_left (same_number (pos n) (pos 1))) ∙ e))
    ended (t ∷ ts) rest e = gap_first (pos n) (is_piece (piece.Word word.Step) t.piece) t ts rest refl e

taker : {f : Rest → Rest} → Ends f → IsLineTaker f
taker {f} ends = record { alone = alone; more = more }
  where
    alone : (here rest : List Token) → f (Some here) ≡ Some rest → Alone f here rest
    alone here rest e =
        let a = ends.ended here rest e in
        record { line = a.line; split = a.split; full = a.full; spelled = ap (λ (xs : List Token). f (Some xs)) (sym (append-nil a.line)) ∙ a.alone [] }

    more : (line rest : List Token) → f (Some line) ≡ Some [] → f (Some (line ++ rest)) ≡ Some rest
    more line rest e =
        let a = ends.ended line [] e in
        ap (λ (xs : List Token). f (Some (xs ++ rest))) (a.split ∙ append-nil a.line) ∙ a.alone rest

-- what ends with the line behind it
to_end : {f : Rest → Rest} → Framed f → IsLineTaker (λ z. after_piece piece.LineEnd (f z))
to_end one = taker (behind_held one line_ends)

framed_variable : (line : ℕ) (w : Word) (name : ℕ) → Framed (after_variable line w name)
framed_variable line w name = framed_on (framed_on (framed_start line w) (framed_piece (piece.Name name) refl)) (framed_piece piece.Equals refl)

-- ---- the lines

pub heading_line : IsLineTaker (λ z. after_piece piece.LineEnd (after_piece (piece.Word word.Spmd) z))
heading_line = to_end (framed_word word.Spmd)

pub policy_line : (p : SpmdPolicy) → IsLineTaker (λ z. after_piece piece.LineEnd (after_piece (piece.Word (word_of_policy p)) (after_piece (piece.Word word.Policy) z)))
policy_line p = to_end (framed_on (framed_word word.Policy) (framed_word (word_of_policy p)))

pub parameter_line : (number name : ℕ) (value : Option Expression) → IsLineTaker (after_parameter number name value)
parameter_line number name value =
    to_end (framed_on (framed_on (framed_start number word.Param) (framed_piece (piece.Name name) refl)) (framed_optional piece.Equals refl value))

pub simple_line : (s : SpmdStatement) → is_one s ≡ true → is_simple (first_word s) ≡ true → IsLineTaker (after_statement s)
simple_line statement.Nothing one simple = absurd (false≢true one)
simple_line (statement.Sequence' p a q b) one simple = absurd (false≢true one)
simple_line (statement.Parameter line name v) one simple = absurd (false≢true one)
simple_line (statement.Assign line name v) one simple = to_end (framed_on (framed_variable line word.Let name) (framed_value v))
simple_line (statement.When' line true c p a q b) one simple = absurd (false≢true simple)
simple_line (statement.When' line false c p a q b) one simple = absurd (false≢true simple)
simple_line (statement.Otherwise' p a) one simple = absurd (false≢true simple)
simple_line (statement.Repeat' line name first last step p a) one simple = absurd (false≢true simple)
simple_line (statement.Call line c) one simple = to_end (framed_on (framed_start line (call_word c)) (framed_arguments c))
simple_line (statement.WaitAll line requests) one simple = to_end (framed_on (framed_start line word.Waitall) (framed_labels requests))
simple_line (statement.Unreached line) one simple = to_end (framed_start line word.Error)

pub loop_line : (number name : ℕ) (span : Span) → IsLineTaker (λ z. after_span span.first span.last (pos span.step) (after_variable number word.For name z))
loop_line number name span =
    taker
    (behind_held (framed_on (framed_on (framed_on (framed_variable number word.For name) (framed_value span.first)) (framed_word word.To)) (framed_value span.last))
    (gap_ends span.step))

pub head_line : (number : ℕ) (chained : Bool) (c : Expression) → IsLineTaker (after_head number chained c)
head_line number chained c = to_end (framed_on (framed_start number (branch_word chained)) (framed_condition c))

pub else_line : IsLineTaker (λ z. after_piece piece.LineEnd (after_piece (piece.Word word.Else) z))
else_line = to_end (framed_word word.Else)

pub end_line : IsLineTaker (after_end false)
end_line = to_end (framed_word word.End)

-- the end of the text is a line of its own
pub text_end_line : (line : List Token) → after_piece piece.TextEnd (Some line) ≡ Some [] → is_line line ≡ true
text_end_line line e =
    let t = taken piece.TextEnd line [] e in ap is_line t.here_is ∙ ap closes t.piece_so
