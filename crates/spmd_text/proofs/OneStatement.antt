-- Of what stands at one place one statement is read, but for statements within it.
use Rattle.std.proofs.Common.{◌≡◌, ℕ, ℤ, pos, Bool, true, false, if◌then◌else◌, List, [], ◌∷◌, Some, refl, ap, sym, ◌∙◌, arith}
use Rattle.std.proofs.lemmas.Bool.{false≢true}
use Rattle.std.proofs.lemmas.Option.{same_Some}
use Rattle.spmd_tree.specs.declared.tree.Expression.{Expression}
use Rattle.spmd_tree.specs.declared.tree.SpmdStatement.{SpmdStatement}
use Rattle.spmd_tree.specs.declared.tree.SpmdStatement.TheVariants as statement
use Rattle.spmd_text.specs.declared.piece.Word.{Word}
use Rattle.spmd_text.specs.declared.piece.Word.TheVariants as word
use Rattle.spmd_text.specs.declared.piece.Piece.{Piece}
use Rattle.spmd_text.specs.declared.piece.Piece.TheVariants as piece
use Rattle.spmd_text.specs.declared.piece.Token.{Token}
use Rattle.spmd_text.specs.Spelling.{Rest, after_end, after_gap, after_head, after_piece, after_span, after_statement, after_variable, branch_word, only, piece_begins, same_number}
use Rattle.spmd_text.proofs.NoStar.{only_left}
use Rattle.spmd_text.proofs.Pieces.{piece_is}
use Rattle.spmd_text.proofs.Strict.{only_none}
use Rattle.spmd_tree.specs.Plain.{Place, put_expression, statements}
use Rattle.spmd_text.proofs.OneCall.{at_end, calls_meet, end_quiet, labels_meet, same_names}
use Rattle.spmd_text.proofs.OneExpression.{next, quiet}
use Rattle.spmd_text.proofs.OnePart.{Flows, Meets, any, conditions_meet, lines_meet, meet_as, optionals_meet, piece_meets, pieces_meet, starts_meet, then_meet, values_meet}
use Rattle.spmd_text.proofs.FirstWords.{over, statement_sort}

-- ---- the step of a loop, which may be left out

chosen : (b : Bool) (x y : Rest) → b ≡ true → (if b then x else y) ≡ x
chosen b x y e = ap (λ (c : Bool). if c then x else y) e

not_chosen : (b : Bool) (x y : Rest) → b ≡ false → (if b then x else y) ≡ y
not_chosen b x y e = ap (λ (c : Bool). if c then x else y) e

-- which of two holds
pub data Which (b : Bool) : Type 0 where
  is_so : b ≡ true → Which b
  is_not : b ≡ false → Which b

pub which : (b : Bool) → Which b
which true = is_so refl
which false = is_not refl

-- the step that is written, or none
written : (n : ℤ) (ts : List Token) → piece_begins (piece.Word word.Step) (Some ts) ≡ true → after_gap n (Some ts) ≡ after_piece (piece.Number n) (after_piece (piece.Word word.Step) (Some ts))
written n ts e = chosen (piece_begins (piece.Word word.Step) (Some ts)) (after_piece (piece.Number n) (after_piece (piece.Word word.Step) (Some ts))) (only (same_number n (pos 1)) (Some ts)) e

unwritten : (n : ℤ) (ts : List Token) → piece_begins (piece.Word word.Step) (Some ts) ≡ false → after_gap n (Some ts) ≡ only (same_number n (pos 1)) (Some ts)
unwritten n ts e = not_chosen (piece_begins (piece.Word word.Step) (Some ts)) (after_piece (piece.Number n) (after_piece (piece.Word word.Step) (Some ts))) (only (same_number n (pos 1)) (Some ts)) e

steps_meet : (m n : ℤ) → Meets (λ z. after_piece (piece.Number m) (after_piece (piece.Word word.Step) z)) (λ z. after_piece (piece.Number n) (after_piece (piece.Word word.Step) z)) quiet any (piece.Number m ≡ piece.Number n)
steps_meet m n = meet_as (λ x. x.1) (then_meet (piece_meets (piece.Word word.Step) quiet refl) (pieces_meet (piece.Number m) (piece.Number n) any refl refl))

is_one_step : (n : ℤ) (ts rest : List Token) → only (same_number n (pos 1)) (Some ts) ≡ Some rest → (piece.Number n ≡ piece.Number (pos 1)) × (ts ≡ rest)
is_one_step n ts rest e = let o = only_left (same_number n (pos 1)) (Some ts) rest e in (piece_is (piece.Number (pos 1)) (piece.Number n) o.0, same_Some ts rest o.1)

gap_flows : (n : ℤ) → Flows (after_gap n) quiet at_end
gap_flows n = record {
  strict = only_none (same_number n (pos 1));
  first = λ ts rest e h. by ts rest e h (which (piece_begins (piece.Word word.Step) (Some ts)));
}
  where
    by : (ts rest : List Token) → after_gap n (Some ts) ≡ Some rest → at_end (next rest) ≡ true → Which (piece_begins (piece.Word word.Step) (Some ts)) → quiet (next ts) ≡ true
    by ts rest e h (is_so b) = (steps_meet n n).left.first ts rest (sym (written n ts b) ∙ e) refl
    by ts rest e h (is_not b) = ap (λ (l : List Token). quiet (next l)) (is_one_step n ts rest (sym (unwritten n ts b) ∙ e)).1 ∙ end_quiet (next rest) h

gaps_meet : (m n : ℤ) → Meets (after_gap m) (after_gap n) quiet at_end (piece.Number m ≡ piece.Number n)
gaps_meet m n = record {
  left = gap_flows m;
  right = gap_flows n;
  one = λ ts r s e e' h h'. by ts r s e e' (which (piece_begins (piece.Word word.Step) (Some ts)));
}
  where
    by : (ts r s : List Token) → after_gap m (Some ts) ≡ Some r → after_gap n (Some ts) ≡ Some s → Which (piece_begins (piece.Word word.Step) (Some ts)) → (piece.Number m ≡ piece.Number n) × (r ≡ s)
    by ts r s e e' (is_so b) = (steps_meet m n).one ts r s (sym (written m ts b) ∙ e) (sym (written n ts b) ∙ e') refl refl
    by ts r s e e' (is_not b) =
        let x = is_one_step m ts r (sym (unwritten m ts b) ∙ e) in
        let y = is_one_step n ts s (sym (unwritten n ts b) ∙ e') in
        (x.0 ∙ sym y.0, sym x.1 ∙ y.1)

same_steps : (j k : ℕ) → piece.Number (pos j) ≡ piece.Number (pos k) → j ≡ k
same_steps j k e = cc

-- ---- the pieces of statements

-- the word that ends a block
abbrev pub closing : Piece → Bool
closing (piece.Word word.End) = true
closing _ = false

pub closing_over : (p : Piece) → closing p ≡ true → over p ≡ true
closing_over (piece.Word word.End) h = refl
closing_over p h = absurd (false≢true h)

pub ends_meet : Meets (after_end false) (after_end false) closing any (piece.LineEnd ≡ piece.LineEnd)
ends_meet = meet_as (λ x. x.1) (then_meet (piece_meets (piece.Word word.End) closing refl) (piece_meets piece.LineEnd any refl))

line_ends : Meets (after_piece piece.LineEnd) (after_piece piece.LineEnd) quiet any (piece.LineEnd ≡ piece.LineEnd)
line_ends = piece_meets piece.LineEnd quiet refl

last_ends : Meets (after_piece piece.LineEnd) (after_piece piece.LineEnd) at_end any (piece.LineEnd ≡ piece.LineEnd)
last_ends = piece_meets piece.LineEnd at_end refl

pub variables_meet : (line k : ℕ) (w : Word) (a b : ℕ) → Meets (after_variable line w a) (after_variable k w b) any any ((line ≡ k) × (a ≡ b))
variables_meet line k w a b =
    meet_as (λ x. (x.0.0.0, same_names a b x.0.1))
    (then_meet (then_meet (starts_meet line k w w any refl refl) (pieces_meet (piece.Name a) (piece.Name b) any refl refl)) (piece_meets piece.Equals any refl))

pub spans_meet : (n : Place) (first last : Expression) (step : ℕ) (first' last' : Expression) (step' : ℕ) → Meets (after_span first last (pos step)) (after_span first' last' (pos step')) any any
    ((put_expression n first ≡ put_expression n first') × (put_expression n last ≡ put_expression n last') × (step ≡ step'))
spans_meet n first last step first' last' step' =
    meet_as (λ x. (x.0.0.0.0, x.0.0.1, same_steps step step' x.0.1))
    (then_meet (then_meet (then_meet (then_meet (values_meet n first first') (piece_meets (piece.Word word.To) quiet refl)) (values_meet n last last')) (gaps_meet (pos step) (pos step'))) last_ends)

pub heads_meet : (n : Place) (line k : ℕ) (chained : Bool) (c d : Expression) (before : Piece → Bool) → before (piece.Word (branch_word chained)) ≡ true
    → Meets (after_head line chained c) (after_head k chained d) before any ((line ≡ k) × (put_expression n c ≡ put_expression n d))
heads_meet n line k chained c d before so =
    meet_as (λ x. (x.0.0.0, x.0.1)) (then_meet (then_meet (starts_meet line k (branch_word chained) (branch_word chained) before so so) (conditions_meet n c d)) line_ends)

-- ---- one statement

-- whether no statement stands within it
abbrev pub is_leaf : SpmdStatement → Bool
is_leaf (statement.Parameter line name e) = true
is_leaf (statement.Assign line name e) = true
is_leaf (statement.Call line c) = true
is_leaf (statement.WaitAll line requests) = true
is_leaf (statement.Unreached line) = true
is_leaf _ = false

pub leaves_meet : (n : Place) (s u : SpmdStatement) → is_leaf s ≡ true → statement_sort s ≡ statement_sort u → Meets (after_statement s) (after_statement u) any any (statements n s ≡ statements n u)
leaves_meet n (statement.Parameter line name e) (statement.Parameter k other f) leaf is =
    meet_as (λ x. λ i. statement.Parameter (x.0.0.0.0 i) (same_names name other x.0.0.1 i) (x.0.1 i) ∷ [])
    (then_meet (then_meet (then_meet (starts_meet line k word.Param word.Param any refl refl) (pieces_meet (piece.Name name) (piece.Name other) any refl refl))
    (optionals_meet n piece.Equals e f any at_end refl refl (λ q h. refl) end_quiet)) last_ends)
leaves_meet n (statement.Assign line name e) (statement.Assign k other f) leaf is =
    meet_as (λ x. λ i. statement.Assign (x.0.0.0 i) (x.0.0.1 i) (x.0.1 i) ∷ []) (then_meet (then_meet (variables_meet line k word.Let name other) (values_meet n e f)) line_ends)
leaves_meet n (statement.Call line c) (statement.Call k d) leaf is =
    meet_as (λ x. λ i. statement.Call (x.0.0 i) (x.0.1 i) ∷ []) (then_meet (then_meet (lines_meet line k any) (calls_meet n c d)) last_ends)
leaves_meet n (statement.WaitAll line l) (statement.WaitAll k m) leaf is =
    meet_as (λ x. λ i. statement.WaitAll (x.0.0.0 i) (x.0.1 i) ∷ []) (then_meet (then_meet (starts_meet line k word.Waitall word.Waitall any refl refl) (labels_meet n l m)) last_ends)
leaves_meet n (statement.Unreached line) (statement.Unreached k) leaf is =
    meet_as (λ x. λ i. statement.Unreached (x.0.0 i) ∷ []) (then_meet (starts_meet line k word.Error word.Error any refl refl) (piece_meets piece.LineEnd any refl))
leaves_meet n statement.Nothing u leaf is = absurd (false≢true leaf)
leaves_meet n (statement.Sequence' p a q b) u leaf is = absurd (false≢true leaf)
leaves_meet n (statement.When' line chained c p a q b) u leaf is = absurd (false≢true leaf)
leaves_meet n (statement.Otherwise' p a) u leaf is = absurd (false≢true leaf)
leaves_meet n (statement.Repeat' line name first last step p a) u leaf is = absurd (false≢true leaf)
leaves_meet n s (statement.When' line true c p a q b) leaf is = absurd (omega (arith, is))
leaves_meet n s (statement.When' line false c p a q b) leaf is = absurd (omega (arith, is))
leaves_meet n s u leaf is = absurd (omega (arith, is))
