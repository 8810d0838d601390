-- What stands behind a part lets it end there.
use Rattle.std.proofs.Common.{◌≡◌, ℕ, Bool, true, false, ◌&&◌, not, List, [], ◌∷◌, Option, Some, None, refl, ap, sym, ◌∙◌}
use Rattle.std.proofs.lemmas.Option.{same_Some}
use Rattle.spmd_tree.specs.declared.tree.Expression.{Expression}
use Rattle.spmd_text.specs.declared.piece.Word.{Word}
use Rattle.spmd_text.specs.declared.piece.Word.TheVariants as word
use Rattle.spmd_text.specs.declared.piece.Piece.{Piece}
use Rattle.spmd_text.specs.declared.piece.Piece.TheVariants as piece
use Rattle.spmd_text.specs.declared.piece.Token.{Token}
use Rattle.spmd_text.specs.parts.Joints.{is_below, joint_of, stops}
use Rattle.spmd_text.specs.Spelling.{Rest, after_piece, after_optional, after_value, piece_begins, is_piece}
use Rattle.spmd_text.specs.declared.parser.Parser.{Parser}
use Rattle.spmd_text.specs.Limits.{IsTreeWithin}
use Rattle.spmd_text.specs.parts.Parts.{lacks, optional_part, piece_part, then_part, value_part}
use Rattle.spmd_text.specs.Rules.{MayValue}
use Rattle.spmd_text.proofs.Pieces.{piece_is, taken}
use Rattle.spmd_text.proofs.Strict.{value_strict}
use Rattle.spmd_text.proofs.Parts.{IsAs}

-- a test of what comes next depends on the next piece alone
abbrev pub Tests : (List Token → Bool) → (Piece → Bool) → Type 0
Tests ends test = (t : Token) (ts : List Token) → ends (t ∷ ts) ≡ test t.piece

pub stops_tests : (least : ℕ) → Tests (stops least) (λ p. is_below (joint_of p) least)
stops_tests least t ts = refl

pub lacks_tests : (p : Piece) → Tests (lacks p) (λ q. not (is_piece p q))
lacks_tests p t ts = refl

-- where the piece is taken and passes the test
pub before_piece : (ends : List Token → Bool) (test : Piece → Bool) → Tests ends test → (p : Piece) → test p ≡ true
    → (here rest : List Token) → after_piece p (Some here) ≡ Some rest → ends here ≡ true
before_piece ends test tests p passes here rest e =
    let t = taken p here rest e in
    ap ends t.here_is ∙ (tests t.token rest ∙ (ap test t.piece_so ∙ passes))

-- what stands behind a piece was spelled behind it
pub value_behind : (p : Piece) (e : Expression) (here rest : List Token) → after_value e (after_piece p (Some here)) ≡ Some rest → (between : List Token) × (after_piece p (Some here) ≡ Some between)
value_behind p e here rest f = by_between (after_piece p (Some here)) refl
  where
    by_between : (z : Rest) → after_piece p (Some here) ≡ z → (between : List Token) × (after_piece p (Some here) ≡ Some between)
    by_between None g = absurd (let never : None ≡ Some rest = sym (value_strict e) ∙ (sym (ap (λ (y : Rest). after_value e y) g) ∙ f) in cc)
    by_between (Some between) g = (between, g)

-- a word and a value come next, or what comes behind them
pub before_optional : (ends : List Token → Bool) (test : Piece → Bool) → Tests ends test → (p : Piece) → test p ≡ true
    → (e : Option Expression) (here rest : List Token) → after_optional p e (Some here) ≡ Some rest → ends rest ≡ true → ends here ≡ true
before_optional ends test tests p passes None here rest e f = ap ends (same_some here rest e) ∙ f
  where
    same_some : (xs ys : List Token) → Some xs ≡ Some ys → xs ≡ ys
    same_some xs ys g = cc
before_optional ends test tests p passes (Some v) here rest e f =
    let b = value_behind p v here rest e in before_piece ends test tests p passes here b.0 b.1

pub and_left : (a b : Bool) → (a && b) ≡ true → a ≡ true
and_left true b e = refl
and_left false b e = e

pub and_right : (a b : Bool) → (a && b) ≡ true → b ≡ true
and_right true b e = e
and_right false b e = absurd cc

pub both_true : (a b : Bool) → a ≡ true → b ≡ true → (a && b) ≡ true
both_true true b e f = f
both_true false b e f = e

-- at the end of a line no joint comes, no bracket, no comma, and no word
pub line_end : (ends : List Token → Bool) (test : Piece → Bool) → Tests ends test → test piece.LineEnd ≡ true
    → (rest : List Token) → piece_begins piece.LineEnd (Some rest) ≡ true → ends rest ≡ true
line_end ends test tests passes [] e = absurd cc
line_end ends test tests passes (t ∷ ts) e = tests t ts ∙ (ap test (piece_is piece.LineEnd t.piece e) ∙ passes)

pub value_ends : (rest : List Token) → piece_begins piece.LineEnd (Some rest) ≡ true → stops 4 rest ≡ true
value_ends rest e = line_end (stops 4) (λ p. is_below (joint_of p) 4) (stops_tests 4) refl rest e

pub label_ends : (rest : List Token) → piece_begins piece.LineEnd (Some rest) ≡ true → lacks piece.OpenIndex rest ≡ true
label_ends rest e = line_end (lacks piece.OpenIndex) (λ q. not (is_piece piece.OpenIndex q)) (lacks_tests piece.OpenIndex) refl rest e

pub communicator_ends : (rest : List Token) → piece_begins piece.LineEnd (Some rest) ≡ true → (stops 4 rest && lacks (piece.Word word.Comm) rest) ≡ true
communicator_ends rest e =
    both_true (stops 4 rest) (lacks (piece.Word word.Comm) rest) (value_ends rest e)
    (line_end (lacks (piece.Word word.Comm)) (λ q. not (is_piece (piece.Word word.Comm) q)) (lacks_tests (piece.Word word.Comm)) refl rest e)

pub never_taken : false ≡ true → ⊥
never_taken e = cc

-- where a piece comes next, it isn't lacking
pub lacks_not : (p : Piece) (rest : List Token) → piece_begins p (Some rest) ≡ true → lacks p rest ≡ true → ⊥
lacks_not p rest e f = let never : false ≡ true = sym (ap not e) ∙ f in cc

-- a word and a value are an optional value
pub optional_as : (old : Parser) (w : Word) (v : Expression) → (old.fault ≡ None → piece_begins (piece.Word w) (Some old.rest.now) ≡ true)
    → IsAs (then_part (piece_part (piece.Word w)) (value_part old.in_parameter)) (optional_part old.in_parameter w) old (tt {0}, v) (Some v)
optional_as old w v there = record {
  back = back;
  stands = λ rest e may. e;
  may = λ may. may.1;
}
  where
    back : (o : Option Expression) (rest : List Token) → old.fault ≡ None → MayValue old.in_parameter o
        → after_optional (piece.Word w) o (Some old.rest.now) ≡ Some rest → (stops 4 rest && lacks (piece.Word w) rest) ≡ true
        → (x : Unit {0} × Expression) × (Unit {0} × IsTreeWithin 32 old.in_parameter x.1) × (after_value x.1 (after_piece (piece.Word w) (Some old.rest.now)) ≡ Some rest) × (stops 4 rest ≡ true) × ((Unit {0} × Unit {0}) → Unit {0})
    back None rest sound may e ends =
        absurd (lacks_not (piece.Word w) rest
        (ap (λ (xs : List Token). piece_begins (piece.Word w) (Some xs)) (sym (same_Some old.rest.now rest e)) ∙ there sound)
        (and_right (stops 4 rest) (lacks (piece.Word w) rest) ends))
    back (Some x) rest sound may e ends = ((tt, x), (tt, may), e, and_left (stops 4 rest) (lacks (piece.Word w) rest) ends, λ same. tt)

-- ---- what follows in calls

stop_test : Piece → Bool
stop_test p = is_below (joint_of p) 4

pub comma_stops : (here rest : List Token) → after_piece piece.Comma (Some here) ≡ Some rest → stops 4 here ≡ true
unfolding stop_test
comma_stops here rest e = before_piece (stops 4) stop_test (stops_tests 4) piece.Comma refl here rest e

pub comma_unindexed : (here rest : List Token) → after_piece piece.Comma (Some here) ≡ Some rest → lacks piece.OpenIndex here ≡ true
comma_unindexed here rest e =
    before_piece (lacks piece.OpenIndex) (λ q. not (is_piece piece.OpenIndex q)) (lacks_tests piece.OpenIndex) piece.Comma refl here rest e

-- a word that is no joint
pub word_stops : (w : Word) → is_below (joint_of (piece.Word w)) 4 ≡ true → (e : Option Expression) (here rest : List Token)
    → after_optional (piece.Word w) e (Some here) ≡ Some rest → (stops 4 rest && lacks (piece.Word w) rest) ≡ true → stops 4 here ≡ true
unfolding stop_test
word_stops w plain e here rest f ends =
    before_optional (stops 4) stop_test (stops_tests 4) (piece.Word w) plain e here rest f (and_left (stops 4 rest) (lacks (piece.Word w) rest) ends)

pub closing_stops : (here rest : List Token) → after_piece piece.CloseIndex (Some here) ≡ Some rest → stops 4 here ≡ true
unfolding stop_test
closing_stops here rest e = before_piece (stops 4) stop_test (stops_tests 4) piece.CloseIndex refl here rest e

pub to_stops : (here rest : List Token) → after_piece (piece.Word word.To) (Some here) ≡ Some rest → stops 4 here ≡ true
unfolding stop_test
to_stops here rest e = before_piece (stops 4) stop_test (stops_tests 4) (piece.Word word.To) refl here rest e

pub among_stops : (here rest : List Token) → after_piece (piece.Word word.Among) (Some here) ≡ Some rest → stops 4 here ≡ true
unfolding stop_test
among_stops here rest e = before_piece (stops 4) stop_test (stops_tests 4) (piece.Word word.Among) refl here rest e

-- at the end of a line, or before `comm`
line_or_comm : (ends : List Token → Bool) (test : Piece → Bool) → Tests ends test → test piece.LineEnd ≡ true → test (piece.Word word.Comm) ≡ true
    → (c : Option Expression) (here rest : List Token) → after_optional (piece.Word word.Comm) c (Some here) ≡ Some rest → piece_begins piece.LineEnd (Some rest) ≡ true → ends here ≡ true
line_or_comm ends test tests at_end at_comm c here rest e line = before_optional ends test tests (piece.Word word.Comm) at_comm c here rest e (line_end ends test tests at_end rest line)

pub group_ends : (c : Option Expression) (here rest : List Token) → after_optional (piece.Word word.Comm) c (Some here) ≡ Some rest → piece_begins piece.LineEnd (Some rest) ≡ true
    → (stops 4 here && (lacks (piece.Word word.Among) here && lacks (piece.Word word.Step) here)) ≡ true
unfolding stop_test
group_ends c here rest e line =
    both_true (stops 4 here) (lacks (piece.Word word.Among) here && lacks (piece.Word word.Step) here)
    (line_or_comm (stops 4) stop_test (stops_tests 4) refl refl c here rest e line)
    (both_true (lacks (piece.Word word.Among) here) (lacks (piece.Word word.Step) here)
    (line_or_comm (lacks (piece.Word word.Among)) (λ q. not (is_piece (piece.Word word.Among) q)) (lacks_tests (piece.Word word.Among)) refl refl c here rest e line)
    (line_or_comm (lacks (piece.Word word.Step)) (λ q. not (is_piece (piece.Word word.Step) q)) (lacks_tests (piece.Word word.Step)) refl refl c here rest e line))

pub line_end_stops : (here rest : List Token) → after_piece piece.LineEnd (Some here) ≡ Some rest → stops 4 here ≡ true
unfolding stop_test
line_end_stops here rest e = before_piece (stops 4) stop_test (stops_tests 4) piece.LineEnd refl here rest e

pub line_end_labels : (here rest : List Token) → after_piece piece.LineEnd (Some here) ≡ Some rest → (lacks piece.OpenIndex here && lacks piece.Comma here) ≡ true
line_end_labels here rest e =
    both_true (lacks piece.OpenIndex here) (lacks piece.Comma here)
    (before_piece (lacks piece.OpenIndex) (λ q. not (is_piece piece.OpenIndex q)) (lacks_tests piece.OpenIndex) piece.LineEnd refl here rest e)
    (before_piece (lacks piece.Comma) (λ q. not (is_piece piece.Comma q)) (lacks_tests piece.Comma) piece.LineEnd refl here rest e)

pub line_end_begins : (here rest : List Token) → after_piece piece.LineEnd (Some here) ≡ Some rest → piece_begins piece.LineEnd (Some here) ≡ true
line_end_begins here rest e = before_piece (λ xs. piece_begins piece.LineEnd (Some xs)) (is_piece piece.LineEnd) (λ t ts. refl) piece.LineEnd refl here rest e
