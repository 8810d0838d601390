-- The pieces of a text end with the end of the text, and it stands nowhere else.
use Rattle.std.proofs.Common.{◌≡◌, ℕ, Bool, true, false, not, ◌&&◌, ◌||◌, nat_eq, nat_lt, List, [], ◌∷◌, ◌++◌, length, Option, Some, None, Result, Ok, Err, if◌then◌else◌, refl, ap, subst, ◌∙◌}
use Rattle.std.specs.List.{list_all}
use Rattle.spmd_text.specs.declared.fault.ParseFault.{ParseFault}
use Rattle.spmd_text.specs.declared.fault.ParseReason.{ParseReason}
use Rattle.spmd_text.specs.declared.piece.Word.{Word}
use Rattle.spmd_text.specs.declared.piece.Piece.{Piece}
use Rattle.spmd_text.specs.declared.piece.Piece.TheVariants as piece
use Rattle.spmd_text.specs.declared.piece.Token.{Token}
use Rattle.spmd_text.specs.Words.{keyword_of}
use Rattle.spmd_text.specs.Tokens.{Cutting, Step, last_line_ended, commented, equals, equals_after, fed, feed, feed_all, text_finished, is_digit_byte, is_word_byte, known_or_named, lettered, line_ended, lined, name_ended, name_pushed, named_new, line_advanced, nothing, number_from, on, opened, bracket_closed, pieces_of, place_from, placed, piece_pushed, sign_alone, sign_doubled, sign_ended, sign_ended_by, with_sign, single, with_name, word_ended, word_ended_by, worded, wordless}
use Rattle.spmd_text.specs.parts.Lines.{IsEnded, has_text_end, is_text_end}

-- the text doesn't end in these pieces
abbrev GoesOn : List Token → Type 0
GoesOn ts = list_all (λ (t : Token). not (is_text_end t.piece)) ts ≡ true

abbrev Safe : Step → Type 0
Safe (Ok s) = GoesOn s.tokens
Safe (Err why) = Unit {0}

abbrev Ended : Result Cutting ParseFault → Type 0
Ended (Ok s) = IsEnded s.tokens
Ended (Err fault) = Unit {0}

-- ---- one piece more

pushed_goes : (ts : List Token) (t : Token) → GoesOn ts → is_text_end t.piece ≡ false → GoesOn (ts ++ t ∷ [])
pushed_goes [] t goes other = ap (λ (b : Bool). not b && true) other
pushed_goes (u ∷ ts) t goes other = two (not (is_text_end u.piece)) (list_all (λ (v : Token). not (is_text_end v.piece)) ts) (list_all (λ (v : Token). not (is_text_end v.piece)) (ts ++ t ∷ [])) goes (λ rest. pushed_goes ts t rest other)
  where
    two : (a b c : Bool) → (a && b) ≡ true → (b ≡ true → c ≡ true) → (a && c) ≡ true
    two true b c e f = f e
    two false b c e f = absurd (let never : false ≡ true = e in cc)

put : (p : Piece) (s : Cutting) → is_text_end p ≡ false → GoesOn s.tokens → GoesOn (piece_pushed p s).tokens
put p s other goes = pushed_goes s.tokens (record { line = s.line; piece = p }) goes other

-- ---- steps

either : (b : Bool) (x y : Step) → Safe x → Safe y → Safe (if b then x else y)
either true x y one other = one
either false x y one other = other

next_safe : (x : Step) (go : Cutting → Step) → Safe x → ((s : Cutting) → GoesOn s.tokens → Safe (go s)) → Safe (on x go)
next_safe (Ok s) go one others = others s one
next_safe (Err why) go one others = tt

with_any : {A : Type 0} (x : Result A ParseReason) (go : A → Step) → ((a : A) → Safe (go a)) → Safe (on x go)
with_any (Ok a) go others = others a
with_any (Err why) go others = tt

new_name : (s : Cutting) → GoesOn s.tokens → Safe (named_new s)
unfolding named_new
new_name s goes = with_any (placed (length s.names)) (λ k. Ok (piece_pushed (piece.Name k) (with_name s))) (λ k. put (piece.Name k) (with_name s) refl goes)

some_name : (place : Option ℕ) (s : Cutting) → GoesOn s.tokens → Safe (name_pushed place s)
some_name None s goes = new_name s goes
some_name (Some k) s goes = with_any (placed k) (λ n. Ok (piece_pushed (piece.Name n) s)) (λ n. put (piece.Name n) s refl goes)

a_name : (s : Cutting) → GoesOn s.tokens → Safe (name_ended s)
unfolding name_ended
a_name s goes = either (nat_lt 32 (length s.word)) (Err _) (name_pushed (place_from s.word 0 s.names) s) tt (some_name (place_from s.word 0 s.names) s goes)

a_word : (w : Option Word) (s : Cutting) → GoesOn s.tokens → Safe (known_or_named w s)
a_word (Some w) s goes = put (piece.Word w) s refl goes
a_word None s goes = a_name s goes

words : (first : ℕ) (s : Cutting) → GoesOn s.tokens → Safe (worded first s)
unfolding worded
words first s goes =
    either (is_digit_byte first) (on (number_from 0 s.word) (λ n. Ok (piece_pushed (piece.Number n) s))) (known_or_named (keyword_of s.word) s)
    (with_any (number_from 0 s.word) (λ n. Ok (piece_pushed (piece.Number n) s)) (λ n. put (piece.Number n) s refl goes)) (a_word (keyword_of s.word) s goes)

word_by : (w : List ℕ) (s : Cutting) → GoesOn s.tokens → Safe (word_ended_by w s)
word_by [] s goes = goes
word_by (first ∷ others) s goes = next_safe (worded first s) (λ t. Ok (wordless t)) (words first s goes) (λ t kept. kept)

word_safe : (s : Cutting) → GoesOn s.tokens → Safe (word_ended s)
unfolding word_ended
word_safe s goes = word_by s.word s goes

alone : (sign : ℕ) (s : Cutting) → GoesOn s.tokens → Safe (sign_alone sign s)
alone sign s goes =
    either (nat_eq sign 61) (Ok (piece_pushed piece.Equals s)) _ (put piece.Equals s refl goes)
    (either (nat_eq sign 60) (Ok (piece_pushed piece.Below s)) _ (put piece.Below s refl goes)
    (either (nat_eq sign 62) (Ok (piece_pushed piece.Above s)) _ (put piece.Above s refl goes) tt))

sign_by : (sign : Option ℕ) (s : Cutting) → GoesOn s.tokens → Safe (sign_ended_by sign s)
sign_by None s goes = goes
sign_by (Some sign) s goes = alone sign (with_sign None s) goes

sign_safe : (s : Cutting) → GoesOn s.tokens → Safe (sign_ended s)
unfolding sign_ended
sign_safe s goes = sign_by s.sign s goes

doubled : (sign : ℕ) (s : Cutting) → GoesOn s.tokens → Safe (sign_doubled sign s)
doubled sign s goes =
    either (nat_eq sign 61) (Ok (piece_pushed piece.Same s)) _ (put piece.Same s refl goes)
    (either (nat_eq sign 33) (Ok (piece_pushed piece.Other s)) _ (put piece.Other s refl goes)
    (either (nat_eq sign 60) (Ok (piece_pushed piece.UpTo s)) _ (put piece.UpTo s refl goes) (put piece.From s refl goes)))

equal_sign : (sign : Option ℕ) (s : Cutting) → GoesOn s.tokens → Safe (equals_after sign s)
equal_sign None s goes = goes
equal_sign (Some sign) s goes = doubled sign (with_sign None s) goes

equals_safe : (s : Cutting) → GoesOn s.tokens → Safe (equals s)
unfolding equals
equals_safe s goes = equal_sign s.sign s goes

line_safe : (s : Cutting) → GoesOn s.tokens → Safe (line_ended s)
unfolding line_ended
line_safe s goes = either (nat_eq s.brackets 0 && not s.goes_on) (Ok (line_advanced (piece_pushed piece.LineEnd s))) (Ok (line_advanced s)) (put piece.LineEnd s refl goes) goes

one_of : (b : Bool) (p : Piece) (s : Cutting) (y : Step) → is_text_end p ≡ false → GoesOn s.tokens → Safe y → Safe (if b then Ok (piece_pushed p s) else y)
one_of b p s y other goes others = either b (Ok (piece_pushed p s)) y (put p s other goes) others

single_safe : (b : ℕ) (s : Cutting) → GoesOn s.tokens → Safe (single b s)
unfolding single
single_safe b s goes =
    either (nat_eq b 10) (line_ended s) _ (line_safe s goes)
    (either (nat_eq b 32) (Ok s) _ goes
    (either (nat_eq b 9) (Ok s) _ goes
    (either (nat_eq b 13) (Ok s) _ goes
    (either (nat_eq b 35) (Ok (commented true s)) _ goes
    (either (nat_eq b 33) (Ok (with_sign (Some 33) s)) _ goes
    (either (nat_eq b 60) (Ok (with_sign (Some 60) s)) _ goes
    (either (nat_eq b 62) (Ok (with_sign (Some 62) s)) _ goes
    (one_of (nat_eq b 43) piece.Plus s _ refl goes
    (one_of (nat_eq b 45) piece.Minus s _ refl goes
    (one_of (nat_eq b 42) piece.Star s _ refl goes
    (one_of (nat_eq b 44) piece.Comma s _ refl goes
    (one_of (nat_eq b 40) piece.Open (opened s) _ refl goes
    (one_of (nat_eq b 91) piece.OpenIndex (opened s) _ refl goes
    (one_of (nat_eq b 41) piece.Close (bracket_closed s) _ refl goes
    (one_of (nat_eq b 93) piece.CloseIndex (bracket_closed s) _ refl goes tt)))))))))))))))

fed_safe : (b : ℕ) (s : Cutting) → GoesOn s.tokens → Safe (fed b s)
unfolding fed
fed_safe b s goes =
    either (is_word_byte b) (on (sign_ended s) (λ t. Ok (lettered b t))) (on (word_ended s) (λ t. if nat_eq b 61 then equals t else on (sign_ended t) (λ u. single b u)))
    (next_safe (sign_ended s) (λ t. Ok (lettered b t)) (sign_safe s goes) (λ t kept. kept))
    (next_safe (word_ended s) (λ t. if nat_eq b 61 then equals t else on (sign_ended t) (λ u. single b u)) (word_safe s goes)
    (λ t kept. either (nat_eq b 61) (equals t) (on (sign_ended t) (λ u. single b u)) (equals_safe t kept) (next_safe (sign_ended t) (λ u. single b u) (sign_safe t kept) (λ u held. single_safe b u held))))

feed_safe : (b : ℕ) (s : Cutting) → GoesOn s.tokens → Safe (feed b s)
unfolding feed
feed_safe b s goes =
    either s.comment (if nat_eq b 10 then fed b (commented false s) else Ok s) (fed b s)
    (either (nat_eq b 10) (fed b (commented false s)) (Ok s) (fed_safe b (commented false s) goes) goes) (fed_safe b s goes)

-- ---- the end

ended : (s : Cutting) → GoesOn s.tokens → IsEnded (piece_pushed piece.TextEnd s).tokens
ended s goes = record { front = s.tokens; token = record { line = s.line; piece = piece.TextEnd }; split = refl; ends = refl; once = goes }

Done : Step → Type 0
Done (Ok s) = IsEnded s.tokens
Done (Err why) = Unit {0}

either_done : (b : Bool) (x y : Step) → Done x → Done y → Done (if b then x else y)
either_done true x y one other = one
either_done false x y one other = other

closing_done : (s : Cutting) → GoesOn s.tokens → Done (last_line_ended s)
unfolding Done
closing_done s goes =
    either_done s.goes_on (Ok (piece_pushed piece.TextEnd s)) (Ok (piece_pushed piece.TextEnd (piece_pushed piece.LineEnd s))) (ended s goes) (ended (piece_pushed piece.LineEnd s) (put piece.LineEnd s refl goes))

then_done : (x : Step) (go : Cutting → Step) → Safe x → ((s : Cutting) → GoesOn s.tokens → Done (go s)) → Done (on x go)
unfolding Done
then_done (Ok s) go one others = others s one
then_done (Err why) go one others = tt

finished_done : (s : Cutting) → GoesOn s.tokens → Done (text_finished s)
unfolding text_finished
finished_done s goes =
    then_done (word_ended s) (λ t. on (sign_ended t) (λ u. last_line_ended u)) (word_safe s goes)
    (λ t kept. then_done (sign_ended t) (λ u. last_line_ended u) (sign_safe t kept) (λ u held. closing_done u held))

lined_done : (line : ℕ) (x : Step) → Done x → Ended (lined line x (λ t. Ok t))
unfolding Done
lined_done line (Ok s) one = one
lined_done line (Err why) one = tt

lined_on : (line : ℕ) (x : Step) (go : Cutting → Result Cutting ParseFault) → Safe x → ((s : Cutting) → GoesOn s.tokens → Ended (go s)) → Ended (lined line x go)
lined_on line (Ok s) go one others = others s one
lined_on line (Err why) go one others = tt

all_ended : (bs : List ℕ) (s : Cutting) → GoesOn s.tokens → Ended (feed_all bs s)
unfolding feed_all
all_ended [] s goes = lined_done s.line (text_finished s) (finished_done s goes)
all_ended (b ∷ bs) s goes = lined_on s.line (feed b s) (λ t. feed_all bs t) (feed_safe b s goes) (λ t kept. all_ended bs t kept)

-- the pieces of a text end with its end
pub pieces_ended : (bytes : List ℕ) (state : Cutting) → pieces_of bytes ≡ Ok state → IsEnded state.tokens
pieces_ended bytes state e = subst Ended e (all_ended bytes nothing refl)

true_right : (a b : Bool) → b ≡ true → (a || b) ≡ true
true_right true b f = refl
true_right false b f = f

-- what ends so ends somewhere
pub ended_ends : (ts : List Token) → IsEnded ts → has_text_end ts ≡ true
ended_ends ts e = ap has_text_end e.split ∙ by e.front
  where
    by : (front : List Token) → has_text_end (front ++ e.token ∷ []) ≡ true
    by [] = ap (λ (p : Piece). is_text_end p || false) e.ends
    by (t ∷ front) = true_right (is_text_end t.piece) (has_text_end (front ++ e.token ∷ [])) (by front)
