-- The word that a statement begins with tells what it is.
use Rattle.std.proofs.Common.{◌≡◌, ℕ, ◌<◌, Bool, true, false, ◌&&◌, not, nat_eq, List, Some, None, refl, ap, sym, ◌∙◌, arith}
use Rattle.std.proofs.lemmas.Bool.{eq-eqb, eqb-true, false≢true}
use Rattle.spmd_tree.specs.declared.tree.SendMode.TheVariants.{Standard}
use Rattle.spmd_tree.specs.declared.tree.CollectiveKind.TheVariants as kind
use Rattle.spmd_tree.specs.declared.tree.Arguments.{Arguments}
use Rattle.spmd_tree.specs.declared.tree.Arguments.TheVariants as call
use Rattle.spmd_tree.specs.declared.tree.SpmdStatement.{SpmdStatement}
use Rattle.spmd_tree.specs.declared.tree.SpmdStatement.TheVariants as statement
use Rattle.spmd_text.specs.declared.piece.Word.{Word}
use Rattle.spmd_text.specs.declared.piece.Word.TheVariants as word
use Rattle.spmd_text.specs.declared.piece.Piece.{Piece}
use Rattle.spmd_text.specs.declared.piece.Piece.TheVariants as piece
use Rattle.spmd_text.specs.declared.piece.Token.{Token}
use Rattle.spmd_text.specs.Spelling.{Rest, after_arguments, after_condition, after_end, after_gap, after_labels, after_optional, after_piece, after_start, after_statement, after_value, branch_word, call_word, is_branch, is_tail, only}
use Rattle.std.specs.Prelude.{pos}
use Rattle.spmd_text.proofs.BlockWords.{statement_strict}
use Rattle.spmd_text.proofs.OneExpression.{next}
use Rattle.spmd_text.proofs.OnePart.{Flows, any, lines_meet, piece_flows, then_flows}

-- neither `Nothing` nor a pair
abbrev pub is_one : SpmdStatement → Bool
is_one statement.Nothing = false
is_one (statement.Sequence' p a q b) = false
is_one _ = true

abbrev pub first_word : SpmdStatement → Word
first_word (statement.Parameter line name e) = word.Param
first_word (statement.Assign line name e) = word.Let
first_word (statement.When' line chained c p a q b) = branch_word chained
first_word (statement.Otherwise' p a) = word.Else
first_word (statement.Repeat' line name first last step p a) = word.For
first_word (statement.Call line c) = call_word c
first_word (statement.WaitAll line requests) = word.Waitall
first_word (statement.Unreached line) = word.Error
first_word _ = word.End

-- what ends the statements before it
abbrev pub over : Piece → Bool
over (piece.Word word.End) = true
over (piece.Word word.Else) = true
over (piece.Word word.Elif) = true
over piece.TextEnd = true
over _ = false

-- ---- what a word begins: 7 and above is over, 0 is a call

abbrev pub word_sort : Word → ℕ
word_sort word.Param = 1
word_sort word.Let = 2
word_sort word.If = 3
word_sort word.For = 4
word_sort word.Waitall = 5
word_sort word.Error = 6
word_sort word.Elif = 7
word_sort word.Else = 8
word_sort word.End = 9
word_sort _ = 0

abbrev pub statement_sort : SpmdStatement → ℕ
statement_sort (statement.Parameter line name e) = 1
statement_sort (statement.Assign line name e) = 2
statement_sort (statement.When' line false c p a q b) = 3
statement_sort (statement.When' line true c p a q b) = 7
statement_sort (statement.Otherwise' p a) = 8
statement_sort (statement.Repeat' line name first last step p a) = 4
statement_sort (statement.WaitAll line requests) = 5
statement_sort (statement.Unreached line) = 6
statement_sort (statement.Call line c) = 0
statement_sort _ = 9

call_sort : (c : Arguments) → word_sort (call_word c) ≡ 0
call_sort (call.Send Standard None d t c) = refl
call_sort (call.Send mode None d t c) = refl
call_sort (call.Send Standard (Some f) d t c) = refl
call_sort (call.Send mode (Some f) d t c) = refl
call_sort (call.Receive None s t c) = refl
call_sort (call.Receive (Some f) s t c) = refl
call_sort (call.MatchedReceive None handle) = refl
call_sort (call.MatchedReceive (Some f) handle) = refl
call_sort (call.Collective kind.Barrier root g c) = refl
call_sort (call.Collective k root g c) = refl
call_sort c = refl

first_sort : (s : SpmdStatement) → word_sort (first_word s) ≡ statement_sort s
first_sort (statement.When' line true c p a q b) = refl
first_sort (statement.When' line false c p a q b) = refl
first_sort (statement.Call line c) = call_sort c
first_sort s = refl

not_over : (w : Word) → word_sort w < 7 → over (piece.Word w) ≡ false
not_over word.End h = absurd (omega (arith, h))
not_over word.Else h = absurd (omega (arith, h))
not_over word.Elif h = absurd (omega (arith, h))
not_over w h = refl

low_sort : (s : SpmdStatement) → is_one s ≡ true → is_branch s ≡ false → statement_sort s < 7
low_sort statement.Nothing one plain = absurd (false≢true one)
low_sort (statement.Sequence' p a q b) one plain = absurd (false≢true one)
low_sort (statement.When' line true c p a q b) one plain = absurd (false≢true (sym plain))
low_sort (statement.Otherwise' p a) one plain = absurd (false≢true (sym plain))
low_sort (statement.When' line false c p a q b) one plain = omega arith
low_sort s one plain = omega arith

goes_on : (s : SpmdStatement) → is_one s ≡ true → is_branch s ≡ false → over (piece.Word (first_word s)) ≡ false
goes_on s one plain = not_over (first_word s) (let sort = first_sort s in let low = low_sort s one plain in omega (arith, sort, low))

-- ---- the word comes first

pub loose : (f : Rest → Rest) → f None ≡ None → Flows f any any
loose f strict = record { strict = strict; first = λ ts rest e h. refl }

start_flows : (line : ℕ) (w : Word) (before : Piece → Bool) → before (piece.Word w) ≡ true → Flows (after_start line w) before any
start_flows line w before so = then_flows (lines_meet line line before).left (piece_flows (piece.Word w) before so)

pub statement_flows : (s : SpmdStatement) → is_one s ≡ true → (before : Piece → Bool) → before (piece.Word (first_word s)) ≡ true → Flows (after_statement s) before any
statement_flows statement.Nothing one before so = absurd (false≢true one)
statement_flows (statement.Sequence' p a q b) one before so = absurd (false≢true one)
statement_flows (statement.Parameter line name e) one before so =
    then_flows (start_flows line word.Param before so)
    (loose (λ z. after_piece piece.LineEnd (after_optional piece.Equals e (after_piece (piece.Name name) z))) (statement_strict (statement.Parameter line name e)))
statement_flows (statement.Assign line name e) one before so =
    then_flows (start_flows line word.Let before so)
    (loose (λ z. after_piece piece.LineEnd (after_value e (after_piece piece.Equals (after_piece (piece.Name name) z)))) (statement_strict (statement.Assign line name e)))
statement_flows (statement.When' line chained c p a q b) one before so =
    then_flows (start_flows line (branch_word chained) before so)
    (loose (λ z. only (not (is_branch a) && is_tail b) (after_end chained (after_statement b (after_statement a (after_piece piece.LineEnd (after_condition c z))))))
    (statement_strict (statement.When' line chained c p a q b)))
statement_flows (statement.Otherwise' p a) one before so =
    then_flows (piece_flows (piece.Word word.Else) before so)
    (loose (λ z. only (not (is_branch a)) (after_statement a (after_piece piece.LineEnd z))) (statement_strict (statement.Otherwise' p a)))
statement_flows (statement.Repeat' line name first last step p a) one before so =
    then_flows (start_flows line word.For before so)
    (loose
    (λ z. only (not (is_branch a)) (after_end false (after_statement a (after_piece piece.LineEnd (after_gap (pos step) (after_value last (after_piece (piece.Word word.To) (after_value first (after_piece piece.Equals (after_piece (piece.Name name) z))))))))))
    (statement_strict (statement.Repeat' line name first last step p a)))
statement_flows (statement.Call line c) one before so =
    then_flows (start_flows line (call_word c) before so) (loose (λ z. after_piece piece.LineEnd (after_arguments c z)) (statement_strict (statement.Call line c)))
statement_flows (statement.WaitAll line requests) one before so =
    then_flows (start_flows line word.Waitall before so) (loose (λ z. after_piece piece.LineEnd (after_labels requests z)) (statement_strict (statement.WaitAll line requests)))
statement_flows (statement.Unreached line) one before so =
    then_flows (start_flows line word.Error before so) (loose (λ z. after_piece piece.LineEnd z) (statement_strict (statement.Unreached line)))

abbrev pub piece_sort : Piece → ℕ
piece_sort (piece.Word w) = word_sort w
piece_sort _ = 0

pub not_so : (b : Bool) → not b ≡ true → b ≡ false
not_so true h = absurd (false≢true h)
not_so false h = refl

pub sort_begins : (s : SpmdStatement) → is_one s ≡ true → (ts rest : List Token) → after_statement s (Some ts) ≡ Some rest → piece_sort (next ts) ≡ statement_sort s
sort_begins s one ts rest e =
    eqb-true (piece_sort (next ts)) (statement_sort s)
    ((statement_flows s one (λ p. nat_eq (piece_sort p) (statement_sort s)) (eq-eqb (word_sort (first_word s)) (statement_sort s) (first_sort s))).first ts rest e refl)

-- where a statement stands that is no branch behind others, the statements are not over
pub begins_on : (s : SpmdStatement) → is_one s ≡ true → is_branch s ≡ false → (ts rest : List Token) → after_statement s (Some ts) ≡ Some rest → over (next ts) ≡ true → ⊥
begins_on s one plain ts rest e h =
    let on = not_so (over (next ts)) ((statement_flows s one (λ p. not (over p)) (ap not (goes_on s one plain))).first ts rest e refl) in
    false≢true (sym on ∙ h)
