-- What may be left out, and tells so by the piece that comes next: a step, and the line of the
-- policy.
use Rattle.std.proofs.Common.{◌≡◌, ℕ, ◌<◌, length, arith, pos, Bool, true, false, nat_eq, if◌then◌else◌, List, [], ◌∷◌, Option, Some, None, refl, ap, sym, ◌∙◌, inr}
use Rattle.std.proofs.lemmas.Option.{same_Some}
use Rattle.spmd_tree.specs.declared.tree.Expression.{Expression}
use Rattle.spmd_text.specs.declared.fault.ParseReason.{ParseReason}
use Rattle.spmd_text.specs.declared.reading.SpmdPolicy.{SpmdPolicy}
use Rattle.spmd_text.specs.declared.reading.SpmdPolicy.TheVariants as policy
use Rattle.spmd_text.specs.declared.parser.Parser.{Parser}
use Rattle.spmd_text.specs.declared.piece.Word.{Word}
use Rattle.spmd_text.specs.declared.piece.Word.TheVariants as word
use Rattle.spmd_text.specs.declared.piece.Piece.{Piece}
use Rattle.spmd_text.specs.declared.piece.Piece.TheVariants as piece
use Rattle.spmd_text.specs.declared.piece.Token.{Token}
use Rattle.spmd_text.specs.parts.Joints.{is_below, joint_of, stops}
use Rattle.spmd_text.specs.Words.{code}
use Rattle.spmd_text.specs.parts.Reading.{behind_next, next_of}
use Rattle.spmd_text.specs.Spelling.{Rest, after_piece, after_gap, after_policy, piece_begins, is_any, only, word_of_policy, same_number}
use Rattle.spmd_text.specs.parts.Parts.{SyntaxPart, HasRead, piece_part, then_part, value_part}
use Rattle.spmd_text.specs.parts.Statements.{gap_part, heading_line_part, heading_part, policy_line_part, policy_part, span_part, step_part}
use Rattle.spmd_text.proofs.CallForms.{at_line_end}
use Rattle.spmd_text.proofs.Following.{before_piece, stops_tests, value_ends}
use Rattle.spmd_text.proofs.NoStar.{left_before, only_left}
use Rattle.spmd_text.proofs.Pieces.{piece_is}
use Rattle.spmd_text.proofs.Parts.{IsAs, ended, keeps_same}

-- where nothing is wrong, a word that isn't read next doesn't come next
pub not_next : (w : Word) (fault : Option ParseReason) (here : List Token) → nat_eq (code (next_of fault here)) (code (piece.Word w)) ≡ false
    → fault ≡ None → piece_begins (piece.Word w) (Some here) ≡ false
not_next w (Some why) here e sound = absurd (let never : Some why ≡ None = sound in cc)
not_next w None [] e sound = refl
not_next w None (t ∷ ts) e sound = e

-- what isn't next isn't taken
pub not_taken : (p q : Piece) (here rest : List Token) → piece_begins p (Some here) ≡ false → after_piece q (after_piece p (Some here)) ≡ Some rest → ⊥
not_taken p q [] rest is e = let never : None ≡ Some rest = e in cc
not_taken p q (t ∷ ts) rest is e = let never : None ≡ Some rest = sym (ap (λ (b : Bool). after_piece q (only b (Some ts))) is) ∙ e in cc

pub none_taken : (p : Piece) (here : List Token) → piece_begins p (Some here) ≡ false → after_piece p (Some here) ≡ None
none_taken p [] is = refl
none_taken p (t ∷ ts) is = ap (λ (b : Bool). only b (Some ts)) is

pub chosen : (b : Bool) (x y : Rest) → b ≡ true → (if b then x else y) ≡ x
chosen true x y e = refl
chosen false x y e = absurd (let never : false ≡ true = e in cc)

pub not_chosen : (b : Bool) (x y : Rest) → b ≡ false → (if b then x else y) ≡ y
not_chosen true x y e = absurd (let never : true ≡ false = e in cc)
not_chosen false x y e = refl

-- a part that is left out is so everywhere
pub left_out : {X : Type 0} {part : SyntaxPart X} {old new : Parser} {a : X} → ((x : X) → part.Same a x) → new ≡ old
    → (old.fault ≡ None → (x : X) (rest : List Token) → part.behind x (Some old.rest.now) ≡ Some rest → old.rest.now ≡ rest)
    → (old.fault ≡ None → part.behind a (Some old.rest.now) ≡ Some old.rest.now) → part.May a → HasRead part old new a
left_out {X} {part} {old} {new} {a} alike same none stands may = record {
  goes = keeps_same same;
  finds = λ x rest sound e m ends.
      inr (record { sound = ap (λ (s : Parser). s.fault) same ∙ sound; left = ap (λ (s : Parser). s.rest.now) same ∙ none sound x rest e }, alike x);
  stands = λ sound. stands (sym (ap (λ (s : Parser). s.fault) same) ∙ sound) ∙ ap (λ (s : Parser). Some s.rest.now) (sym same);
  may = λ sound. may;
}

pub no_gap : {old new : Parser} → new ≡ old → nat_eq (code (next_of old.fault old.rest.now)) (code (piece.Word word.Step)) ≡ false → HasRead gap_part old new 1
no_gap {old} {new} same e = left_out (λ x. tt) same none stands (record { some = omega arith; most = omega arith })
  where
    out : old.fault ≡ None → (n : ℕ) → after_gap (pos n) (Some old.rest.now) ≡ only (same_number (pos n) (pos 1)) (Some old.rest.now)
    out sound n =
        not_chosen (piece_begins (piece.Word word.Step) (Some old.rest.now)) (after_piece (piece.Number (pos n)) (after_piece (piece.Word word.Step) (Some old.rest.now)))
        (only (same_number (pos n) (pos 1)) (Some old.rest.now)) (not_next word.Step old.fault old.rest.now e sound)

    none : old.fault ≡ None → (n : ℕ) (rest : List Token) → after_gap (pos n) (Some old.rest.now) ≡ Some rest → old.rest.now ≡ rest
    none sound n rest f =
        same_Some old.rest.now rest (only_left (same_number (pos n) (pos 1)) (Some old.rest.now) rest (sym (out sound n) ∙ f)).1

    stands : old.fault ≡ None → after_gap (pos 1) (Some old.rest.now) ≡ Some old.rest.now
    stands sound = out sound 1

pub gap_as : (old : Parser) (step : ℕ) → (old.fault ≡ None → piece_begins (piece.Word word.Step) (Some old.rest.now) ≡ true)
    → IsAs (then_part (piece_part (piece.Word word.Step)) step_part) gap_part old (tt {0}, step) step
gap_as old step there = record {
  back = λ w rest sound may e ends. ((tt, w), (tt, may), sym (written (there sound) w) ∙ e, refl, λ same. tt);
  stands = λ rest e may. by_begins (piece_begins (piece.Word word.Step) (Some old.rest.now)) refl rest e;
  may = λ m. m.1;
}
  where
    written : piece_begins (piece.Word word.Step) (Some old.rest.now) ≡ true → (n : ℕ) → after_gap (pos n) (Some old.rest.now) ≡ after_piece (piece.Number (pos n)) (after_piece (piece.Word word.Step) (Some old.rest.now))
    written is n =
        chosen (piece_begins (piece.Word word.Step) (Some old.rest.now)) (after_piece (piece.Number (pos n)) (after_piece (piece.Word word.Step) (Some old.rest.now)))
        (only (same_number (pos n) (pos 1)) (Some old.rest.now)) is

    by_begins : (b : Bool) → piece_begins (piece.Word word.Step) (Some old.rest.now) ≡ b → (rest : List Token)
        → after_piece (piece.Number (pos step)) (after_piece (piece.Word word.Step) (Some old.rest.now)) ≡ Some rest → after_gap (pos step) (Some old.rest.now) ≡ Some rest
    by_begins true is rest e = written is step ∙ e
    by_begins false is rest e = absurd (not_taken (piece.Word word.Step) (piece.Number (pos step)) old.rest.now rest is e)

pub no_policy : {old new : Parser} → new ≡ old → nat_eq (code (next_of old.fault old.rest.now)) (code (piece.Word word.Policy)) ≡ false → HasRead policy_line_part old new policy.Any
no_policy {old} {new} same e = left_out (λ x. tt) same none stands tt
  where
    out : old.fault ≡ None → (p : SpmdPolicy) → after_policy p (Some old.rest.now) ≡ only (is_any p) (Some old.rest.now)
    out sound p =
        not_chosen (piece_begins (piece.Word word.Policy) (Some old.rest.now)) (after_piece piece.LineEnd (after_piece (piece.Word (word_of_policy p)) (after_piece (piece.Word word.Policy) (Some old.rest.now))))
        (only (is_any p) (Some old.rest.now)) (not_next word.Policy old.fault old.rest.now e sound)

    none : old.fault ≡ None → (p : SpmdPolicy) (rest : List Token) → after_policy p (Some old.rest.now) ≡ Some rest → old.rest.now ≡ rest
    none sound p rest f = same_Some old.rest.now rest (only_left (is_any p) (Some old.rest.now) rest (sym (out sound p) ∙ f)).1

    stands : old.fault ≡ None → after_policy policy.Any (Some old.rest.now) ≡ Some old.rest.now
    stands sound = out sound policy.Any

pub policy_as : (old : Parser) (p : SpmdPolicy) → (old.fault ≡ None → piece_begins (piece.Word word.Policy) (Some old.rest.now) ≡ true)
    → IsAs (then_part (then_part (piece_part (piece.Word word.Policy)) policy_part) (piece_part piece.LineEnd)) policy_line_part old ((tt {0}, p), tt {0}) p
policy_as old p there = record {
  back = λ w rest sound may e ends. (((tt, w), tt), ((tt, tt), tt), sym (written (there sound) w) ∙ e, refl, λ same. tt);
  stands = λ rest e may. by_begins (piece_begins (piece.Word word.Policy) (Some old.rest.now)) refl rest e;
  may = λ m. tt;
}
  where
    written : piece_begins (piece.Word word.Policy) (Some old.rest.now) ≡ true → (q : SpmdPolicy)
        → after_policy q (Some old.rest.now) ≡ after_piece piece.LineEnd (after_piece (piece.Word (word_of_policy q)) (after_piece (piece.Word word.Policy) (Some old.rest.now)))
    written is q =
        chosen (piece_begins (piece.Word word.Policy) (Some old.rest.now)) (after_piece piece.LineEnd (after_piece (piece.Word (word_of_policy q)) (after_piece (piece.Word word.Policy) (Some old.rest.now))))
        (only (is_any q) (Some old.rest.now)) is

    by_begins : (b : Bool) → piece_begins (piece.Word word.Policy) (Some old.rest.now) ≡ b → (rest : List Token)
        → after_piece piece.LineEnd (after_piece (piece.Word (word_of_policy p)) (after_piece (piece.Word word.Policy) (Some old.rest.now))) ≡ Some rest → after_policy p (Some old.rest.now) ≡ Some rest
    by_begins true is rest e = written is p ∙ e
    by_begins false is rest e =
        absurd (let never : None ≡ Some rest = sym (ap (λ (z : Rest). after_piece piece.LineEnd (after_piece (piece.Word (word_of_policy p)) z)) (none_taken (piece.Word word.Policy) old.rest.now is)) ∙ e in cc)

pub gap_strict : (n : ℕ) → after_gap (pos n) None ≡ None
gap_strict n = only_none (same_number (pos n) (pos 1))
  where
    only_none : (b : Bool) → only b None ≡ None
    only_none true = refl
    only_none false = refl

pub policy_line_strict : (p : SpmdPolicy) → after_policy p None ≡ None
policy_line_strict policy.Any = refl
policy_line_strict policy.Never = refl
policy_line_strict policy.Always = refl

pub heading_line_as : (old : Parser) → IsAs (then_part (piece_part (piece.Word word.Spmd)) (piece_part piece.LineEnd)) heading_line_part old (tt {0}, tt {0}) (tt {0})
heading_line_as old = record {
  back = λ w rest sound may e ends. ((tt, tt), (tt, tt), e, refl, λ same. tt);
  stands = λ rest e may. e;
  may = λ m. tt;
}

pub heading_as : (old : Parser) (p : SpmdPolicy) → IsAs (then_part heading_line_part policy_line_part) heading_part old (tt {0}, p) p
heading_as old p = record {
  back = λ w rest sound may e ends. ((tt, w), (tt, tt), e, refl, λ same. tt);
  stands = λ rest e may. e;
  may = λ m. tt;
}

-- a step comes next, or the end of the line
pub gap_stops : (n : ℕ) (here rest : List Token) → after_gap (pos n) (Some here) ≡ Some rest → piece_begins piece.LineEnd (Some rest) ≡ true → stops 4 here ≡ true
gap_stops n here rest e ends = by_begins (piece_begins (piece.Word word.Step) (Some here)) refl
  where
    by_begins : (b : Bool) → piece_begins (piece.Word word.Step) (Some here) ≡ b → stops 4 here ≡ true
    by_begins true is =
        let f = sym (chosen (piece_begins (piece.Word word.Step) (Some here)) (after_piece (piece.Number (pos n)) (after_piece (piece.Word word.Step) (Some here))) (only (same_number (pos n) (pos 1)) (Some here)) is) ∙ e in
        let b = left_before (after_piece (piece.Number (pos n))) refl (after_piece (piece.Word word.Step) (Some here)) rest f in
        before_piece (stops 4) (λ p. is_below (joint_of p) 4) (stops_tests 4) (piece.Word word.Step) refl here b.0 b.1
    by_begins false is =
        let f = sym (not_chosen (piece_begins (piece.Word word.Step) (Some here)) (after_piece (piece.Number (pos n)) (after_piece (piece.Word word.Step) (Some here))) (only (same_number (pos n) (pos 1)) (Some here)) is) ∙ e in
        let same = same_Some here rest (only_left (same_number (pos n) (pos 1)) (Some here) rest f).1 in
        ap (stops 4) same ∙ value_ends rest ends

pub span_as : (old : Parser) (first last : Expression) (step : ℕ)
    → IsAs (then_part (then_part (then_part (value_part old.in_parameter) (piece_part (piece.Word word.To))) (value_part old.in_parameter)) (ended gap_part at_line_end))
    (span_part old.in_parameter) old (((first, tt {0}), last), step) (record { first = first; last = last; step = step })
span_as old first last step = record {
  back = λ w rest sound may e ends. ((((w.first, tt), w.last), w.step), (((may.first, tt), may.last), may.step), e, ends, λ same. tt);
  stands = λ rest e may. e;
  may = λ m. record { first = m.0.0.0; last = m.0.1; step = m.1 };
}

-- no word is the end of the text
no_end : (w : Word) → nat_eq (code piece.TextEnd) (code (piece.Word w)) ≡ true → ⊥
no_end w e = let same : piece.TextEnd ≡ piece.Word w = piece_is (piece.Word w) piece.TextEnd e in cc

-- a word that is read next is taken by a step
pub next_word_shorter : (w : Word) (fault : Option ParseReason) (here : List Token) → nat_eq (code (next_of fault here)) (code (piece.Word w)) ≡ true
    → length (behind_next here) < length here
next_word_shorter w None [] e = absurd (no_end w e)
next_word_shorter w (Some why) [] e = absurd (no_end w e)
next_word_shorter w fault (t ∷ ts) e = omega arith
