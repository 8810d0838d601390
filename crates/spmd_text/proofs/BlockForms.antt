-- Loops and branches are read from their parts.
use Rattle.std.proofs.Common.{◌≡◌, ℕ, ◌≤◌, ◌<◌, length, drop, arith, ◌-◌, pos, Bool, true, false, not, ◌&&◌, ◌||◌, List, [], ◌∷◌, ◌++◌, Option, Some, None, refl, ap, sym, subst, ◌∙◌, inl, inr}
use Rattle.std.proofs.lemmas.List.{length-append}
use Rattle.std.proofs.lemmas.Option.{same_Some}
use Rattle.spmd_tree.specs.declared.tree.Expression.{Expression}
use Rattle.spmd_tree.specs.declared.tree.SpmdStatement.{SpmdStatement}
use Rattle.spmd_tree.specs.declared.tree.SpmdStatement.TheVariants as statement
use Rattle.spmd_text.specs.declared.fault.ParseReason.{ParseReason}
use Rattle.spmd_text.specs.declared.fault.ParseReason.TheVariants.{Memory}
use Rattle.spmd_text.specs.declared.lines.Span.{Span}
use Rattle.spmd_text.specs.declared.parser.Parser.{Parser}
use Rattle.spmd_text.specs.declared.piece.Word.{Word}
use Rattle.spmd_text.specs.declared.piece.Word.TheVariants as word
use Rattle.spmd_text.specs.declared.piece.Piece.{Piece}
use Rattle.spmd_text.specs.declared.piece.Piece.TheVariants as piece
use Rattle.spmd_text.specs.declared.piece.Token.{Token}
use Rattle.spmd_text.specs.parts.Joints.{is_below, joint_of, stops}
use Rattle.spmd_text.specs.parts.Reading.{Finds, behind_next, next_of, first_noted}
use Rattle.spmd_text.specs.Spelling.{Rest, after_piece, after_condition, after_end, after_gap, after_start, after_statement, after_value, piece_begins, branch_word, is_branch, is_piece, is_tail, only}
use Rattle.spmd_text.specs.parts.Parts.{Keeps, SyntaxPart, HasRead, condition_part, piece_part, then_part}
use Rattle.spmd_text.specs.parts.Statements.{Begins, IsInside, IsOtherwise, IsRepeat, IsWhen, MayStatements, MayTail, begun_part, end_part, ends_behind, ends_statements, first_word, is_first, is_one, is_simple, one_part, put_back, scope_of, span_part, statements_part, tail_part, variable_part}
use Rattle.spmd_text.specs.Statements.{Obeys, Scope, line_of_first_piece, within_loop}
use Rattle.spmd_text.proofs.Following.{and_left, and_right, before_piece, both_true, stops_tests}
use Rattle.spmd_text.proofs.Going.{goes_failed, never_failed}
use Rattle.spmd_text.proofs.LeftOut.{gap_strict}
use Rattle.spmd_text.proofs.NoStar.{left_before, only_left}
use Rattle.spmd_text.proofs.Parts.{IsAs, found_as, keeps_of, keeps_on, keeps_same, sound_before}
use Rattle.spmd_text.proofs.Pieces.{piece_is}
use Rattle.spmd_text.proofs.Starts.{start_behind, start_same}
use Rattle.spmd_text.proofs.Strict.{after_of, none_of, value_of, value_strict}
use Rattle.spmd_text.proofs.BlockWords.{begins_so, condition_strict, end_ends, end_strict, is_else, is_loop, is_when, one_begins, same_begin, statement_strict}

-- ---- from the first word on

pub reads_begun : {old mid new : Parser} {s : SpmdStatement} {scope : Scope} {depth line : ℕ} {w : Word} → Keeps old mid → (old.fault ≡ None → mid.fault ≡ None)
    → (old.fault ≡ None → put_back line w (Some mid.rest.now) ≡ Some old.rest.now) → HasRead (begun_part scope depth line w) mid new s → HasRead (one_part scope depth w) old new s
reads_begun {old} {mid} {new} {s} {scope} {depth} {line} {w} goes sound_so back r = record {
  goes = keeps_on goes r.goes;
  finds = λ x rest sound e may ends. r.finds x rest (sound_so sound) (ap (λ (z : Rest). after_statement x z) (back sound) ∙ e) may ends;
  stands = λ sound. ap (λ (z : Rest). after_statement s z) (sym (back (sound_before (keeps_on goes r.goes) sound))) ∙ r.stands sound;
  may = r.may;
}

pub put_back_is : (w : Word) (here : List Token) → piece_begins (piece.Word w) (Some here) ≡ true → put_back (line_of_first_piece here) w (Some (behind_next here)) ≡ Some here
put_back_is w [] e = absurd (let never : false ≡ true = e in cc)
put_back_is w (t ∷ ts) e = ap (λ (p : Piece). Some (record { line = t.line; piece = p } ∷ ts)) (sym (piece_is (piece.Word w) t.piece e))

-- ---- what stands behind the statements of a branch

is_nothing_or : (s : SpmdStatement) → is_tail s ≡ true → is_one s ≡ false → s ≡ statement.Nothing
unfolding is_tail
is_nothing_or statement.Nothing tail one = refl
is_nothing_or (statement.Sequence' p a q b) tail one = absurd (let never : false ≡ true = tail in cc)
is_nothing_or (statement.Parameter line name v) tail one = absurd (let never : false ≡ true = tail in cc)
is_nothing_or s tail one = absurd (let never : true ≡ false = one in cc)

begins_end : Word → Type 0
begins_end w = (rest : List Token) → ends_behind w rest ≡ piece_begins (piece.Word word.End) (Some rest)

tail_as : (old : Parser) (scope : Scope) (depth : ℕ) (w : Word) (s : SpmdStatement) → (w ≡ word.End → ⊥) → begins_end w
    → (old.fault ≡ None → piece_begins (piece.Word w) (Some old.rest.now) ≡ true) → (Begins scope depth w s → is_tail s ≡ true)
    → IsAs (one_part scope depth w) (tail_part scope depth) old s s
unfolding begins_end
tail_as old scope depth w s other ends_so there tail_so = record {
  back = back;
  stands = λ rest e may. e;
  may = λ m. record { tail = tail_so m; obeys = m.obeys };
}
  where
    by_one : (one : Bool) (x : SpmdStatement) (rest : List Token) → is_one x ≡ one → old.fault ≡ None → MayTail scope depth x → after_statement x (Some old.rest.now) ≡ Some rest
        → piece_begins (piece.Word word.End) (Some rest) ≡ true → Begins scope depth w x
    by_one true x rest one sound may e ends =
        record { one = one; begins = same_begin (first_word x) w old.rest.now (one_begins x one old.rest.now rest e) (there sound); obeys = may.obeys }
    by_one false x rest one sound may e ends =
        let f = subst (λ (z : SpmdStatement). after_statement z (Some old.rest.now) ≡ Some rest) (is_nothing_or x may.tail one) e in
        let same = same_Some old.rest.now rest f in
        absurd (other (same_begin w word.End rest (ap (λ (xs : List Token). piece_begins (piece.Word w) (Some xs)) (sym same) ∙ there sound) ends))

    back : (x : SpmdStatement) (rest : List Token) → old.fault ≡ None → MayTail scope depth x → after_statement x (Some old.rest.now) ≡ Some rest
        → piece_begins (piece.Word word.End) (Some rest) ≡ true
        → (y : SpmdStatement) × Begins scope depth w y × (after_statement y (Some old.rest.now) ≡ Some rest) × (ends_behind w rest ≡ true) × (Unit {0} → Unit {0})
    back x rest sound may e ends = (x, by_one (is_one x) x rest refl sound may e ends, e, ends_so rest ∙ ends, λ same. tt)

elif_is_tail : (scope : Scope) (depth : ℕ) (s : SpmdStatement) → Begins scope depth word.Elif s → is_tail s ≡ true
unfolding is_tail
elif_is_tail scope depth s may =
    let i = is_when true s may.one may.begins in ap is_tail i.is

else_is_tail : (scope : Scope) (depth : ℕ) (s : SpmdStatement) → Begins scope depth word.Else s → is_tail s ≡ true
unfolding is_tail
else_is_tail scope depth s may =
    let i = is_else s may.one may.begins in ap is_tail i.is

pub elif_as : (old : Parser) (depth : ℕ) (s : SpmdStatement) → (old.fault ≡ None → piece_begins (piece.Word word.Elif) (Some old.rest.now) ≡ true)
    → IsAs (one_part (scope_of old) depth word.Elif) (tail_part (scope_of old) depth) old s s
unfolding begins_end
elif_as old depth s there = tail_as old (scope_of old) depth word.Elif s (λ e. let never : word.Elif ≡ word.End = e in cc) (λ rest. refl) there (elif_is_tail (scope_of old) depth s)

pub else_as : (old : Parser) (depth : ℕ) (s : SpmdStatement) → (old.fault ≡ None → piece_begins (piece.Word word.Else) (Some old.rest.now) ≡ true)
    → IsAs (one_part (scope_of old) depth word.Else) (tail_part (scope_of old) depth) old s s
unfolding begins_end
else_as old depth s there = tail_as old (scope_of old) depth word.Else s (λ e. let never : word.Else ≡ word.End = e in cc) (λ rest. refl) there (else_is_tail (scope_of old) depth s)

pub not_so : (b : Bool) → not b ≡ true → b ≡ false
not_so true e = absurd (let never : false ≡ true = e in cc)
not_so false e = refl

-- ---- an `else`

pub otherwise_back : (old : Parser) (depth line : ℕ) (made : SpmdStatement) (w : SpmdStatement) (rest : List Token) → old.fault ≡ None → Begins (scope_of old) depth word.Else w
    → after_statement w (put_back line word.Else (Some old.rest.now)) ≡ Some rest → ends_behind word.Else rest ≡ true
    → (x : Unit {0} × SpmdStatement) × (Unit {0} × MayStatements (scope_of old) depth x.1) × (after_statement x.1 (after_piece piece.LineEnd (Some old.rest.now)) ≡ Some rest)
    × (ends_statements rest ≡ true) × Unit {0}
otherwise_back old depth line made w rest sound may e ends =
    let i = is_else w may.one may.begins in
    let o = subst (Obeys (scope_of old) depth) i.is may.obeys in
    let f = subst (λ (z : SpmdStatement). after_statement z (put_back line word.Else (Some old.rest.now)) ≡ Some rest) i.is e in
    let g = only_left (not (is_branch i.inner)) (after_statement i.inner (after_piece piece.LineEnd (Some old.rest.now))) rest f in
    ((tt, i.inner), (tt, record { plain = not_so (is_branch i.inner) g.0; obeys = o }), g.1, end_ends rest ends, tt)

pub otherwise_so : (old : Parser) (depth line : ℕ) (inner made : SpmdStatement) → IsOtherwise inner made → (rest : List Token)
    → after_statement inner (after_piece piece.LineEnd (Some old.rest.now)) ≡ Some rest → Unit {0} × MayStatements (scope_of old) depth inner
    → (after_statement made (put_back line word.Else (Some old.rest.now)) ≡ Some rest) × Begins (scope_of old) depth word.Else made
otherwise_so old depth line inner made m rest e may = (
  ap (λ (z : SpmdStatement). after_statement z (put_back line word.Else (Some old.rest.now))) m.is
      ∙ (ap (λ (v : SpmdStatement). only (not (is_branch v)) (after_statement v (after_piece piece.LineEnd (Some old.rest.now)))) m.holds
      ∙ (ap (λ (b : Bool). only (not b) (after_statement inner (after_piece piece.LineEnd (Some old.rest.now)))) may.1.plain ∙ e)),
  subst (Begins (scope_of old) depth word.Else) (sym m.is) (record { one = refl; begins = refl; obeys = subst (Obeys (scope_of old) depth) (sym m.holds) may.1.obeys }),
)

-- ---- a branch

abbrev pub branch_parts : Scope → ℕ → Bool → SyntaxPart ((((Expression × Unit {0}) × SpmdStatement) × SpmdStatement) × Unit {0})
branch_parts scope depth chained =
    then_part (then_part (then_part (then_part (condition_part scope.in_parameter) (piece_part piece.LineEnd)) (statements_part scope depth)) (tail_part scope depth)) (end_part chained)

-- a branch from its condition on
abbrev pub behind_condition : Bool → Expression → SpmdStatement → SpmdStatement → Rest → Rest
behind_condition chained c a b rest = after_end chained (after_statement b (after_statement a (after_piece piece.LineEnd (after_condition c rest))))

condition_none : (chained : Bool) (c : Expression) (a b : SpmdStatement) → behind_condition chained c a b None ≡ None
condition_none chained c a b =
    none_of (after_end chained) (end_strict chained) _ (none_of (after_statement b) (statement_strict b) _ (none_of (after_statement a) (statement_strict a) _ (after_of piece.LineEnd _ (condition_strict c))))

branch_end : (chained : Bool) (rest : List Token) → ends_behind (branch_word chained) rest ≡ true → (not chained || piece_begins (piece.Word word.End) (Some rest)) ≡ true
branch_end true rest e = e
branch_end false rest e = refl

pub when_back : (old : Parser) (depth line : ℕ) (chained : Bool) (w : SpmdStatement) (rest : List Token) → old.fault ≡ None → Begins (scope_of old) depth (branch_word chained) w
    → after_statement w (put_back line (branch_word chained) (Some old.rest.now)) ≡ Some rest → ends_behind (branch_word chained) rest ≡ true
    → (x : (((Expression × Unit {0}) × SpmdStatement) × SpmdStatement) × Unit {0}) × SyntaxPart.May (branch_parts (scope_of old) (depth - 1) chained) x
    × (behind_condition chained x.0.0.0.0 x.0.0.1 x.0.1 (Some old.rest.now) ≡ Some rest) × ((not chained || piece_begins (piece.Word word.End) (Some rest)) ≡ true) × Unit {0}
when_back old depth line chained w rest sound may e ends =
    let i = is_when chained w may.one may.begins in
    let o = subst (Obeys (scope_of old) depth) i.is may.obeys in
    let f = subst (λ (z : SpmdStatement). after_statement z (put_back line (branch_word chained) (Some old.rest.now)) ≡ Some rest) i.is e in
    let g = only_left (not (is_branch i.yes) && is_tail i.other) (behind_condition chained i.condition i.yes i.other (after_start i.line (branch_word chained) (put_back line (branch_word chained) (Some old.rest.now)))) rest f in (
      ((((i.condition, tt), i.yes), i.other), tt),
      ((((o.1, tt), record { plain = not_so (is_branch i.yes) (and_left (not (is_branch i.yes)) (is_tail i.other) g.0); obeys = o.2 }), record { tail = and_right (not (is_branch i.yes)) (is_tail i.other) g.0; obeys = o.3 }), tt),
      start_behind (behind_condition chained i.condition i.yes i.other) (condition_none chained i.condition i.yes i.other) i.line line (branch_word chained) (branch_word chained) old.rest.now rest g.1,
      branch_end chained rest ends,
      tt,
    )

pub when_none : (old : Parser) (depth line : ℕ) (chained : Bool) (w : SpmdStatement) → depth ≡ 0 → Begins (scope_of old) depth (branch_word chained) w → ⊥
when_none old depth line chained w none may =
    let i = is_when chained w may.one may.begins in
    let o = subst (Obeys (scope_of old) depth) i.is may.obeys in
    let low : 1 ≤ depth = o.0 in omega (arith, low, none)

pub when_so : (old : Parser) (depth line : ℕ) (chained : Bool) (c : Expression) (a b made : SpmdStatement) → 1 ≤ depth → IsWhen line chained c a b made → (rest : List Token)
    → behind_condition chained c a b (Some old.rest.now) ≡ Some rest → SyntaxPart.May (branch_parts (scope_of old) (depth - 1) chained) ((((c, tt), a), b), tt)
    → (after_statement made (put_back line (branch_word chained) (Some old.rest.now)) ≡ Some rest) × Begins (scope_of old) depth (branch_word chained) made
when_so old depth line chained c a b made deep m rest e may = (
  ap (λ (z : SpmdStatement). after_statement z start) m.is
      ∙ (ap (λ (v : SpmdStatement). only (not (is_branch v) && is_tail m.second.value) (behind_condition chained c v m.second.value begun)) m.first_holds
      ∙ (ap (λ (v : SpmdStatement). only (not (is_branch a) && is_tail v) (behind_condition chained c a v begun)) m.second_holds
      ∙ (ap (λ (k : Bool). only k (behind_condition chained c a b begun)) (both_true (not (is_branch a)) (is_tail b) (ap not may.0.0.1.plain) may.0.1.tail)
      ∙ (ap (behind_condition chained c a b) (start_same line (branch_word chained) old.rest.now) ∙ e)))),
  subst (Begins (scope_of old) depth (branch_word chained)) (sym m.is)
      (record { one = refl; begins = refl; obeys = (deep, may.0.0.0.0, subst (Obeys (scope_of old) (depth - 1)) (sym m.first_holds) may.0.0.1.obeys, subst (Obeys (scope_of old) (depth - 1)) (sym m.second_holds) may.0.1.obeys) }),
)
  where
    start : Rest
    start = put_back line (branch_word chained) (Some old.rest.now)

    begun : Rest
    begun = after_start line (branch_word chained) start

condition_test : Piece → Bool
condition_test p = is_below (joint_of p) 0

pub line_end_condition : (here rest : List Token) → after_piece piece.LineEnd (Some here) ≡ Some rest → stops 0 here ≡ true
unfolding condition_test
line_end_condition here rest e = before_piece (stops 0) condition_test (stops_tests 0) piece.LineEnd refl here rest e

pub end_behind : (chained : Bool) (here rest : List Token) → after_end chained (Some here) ≡ Some rest → (not chained || piece_begins (piece.Word word.End) (Some rest)) ≡ true
    → piece_begins (piece.Word word.End) (Some here) ≡ true
end_behind true here rest e ends = ap (λ (xs : List Token). piece_begins (piece.Word word.End) (Some xs)) (same_Some here rest e) ∙ ends
end_behind false here rest e ends =
    let b = left_before (after_piece piece.LineEnd) refl (after_piece (piece.Word word.End) (Some here)) rest e in
    before_piece (λ xs. piece_begins (piece.Word word.End) (Some xs)) (is_piece (piece.Word word.End)) (λ t ts. refl) (piece.Word word.End) refl here b.0 b.1

-- ---- a statement that comes next

pub next_begins : (w : Word) (fault : Option ParseReason) (here : List Token) → fault ≡ None → next_of fault here ≡ piece.Word w → piece_begins (piece.Word w) (Some here) ≡ true
next_begins w (Some why) here sound e = absurd (let never : piece.TextEnd ≡ piece.Word w = e in cc)
next_begins w None [] sound e = absurd (let never : piece.TextEnd ≡ piece.Word w = e in cc)
next_begins w None (t ∷ ts) sound e = begins_so t ts w e

pub next_shorter : (w : Word) (fault : Option ParseReason) (here : List Token) → next_of fault here ≡ piece.Word w → length (behind_next here) < length here
next_shorter w (Some why) here e = absurd (let never : piece.TextEnd ≡ piece.Word w = e in cc)
next_shorter w None [] e = absurd (let never : piece.TextEnd ≡ piece.Word w = e in cc)
next_shorter w None (t ∷ ts) e = omega arith

pub first_simple : (w : Word) → is_first w ≡ true → (w ≡ word.For → ⊥) → (w ≡ word.If → ⊥) → is_simple w ≡ true
first_simple word.For first a b = absurd (a refl)
first_simple word.If first a b = absurd (b refl)
first_simple word.Elif first a b = absurd (let never : false ≡ true = first in cc)
first_simple word.Else first a b = absurd (let never : false ≡ true = first in cc)
first_simple w first a b = refl

-- ---- a part that depends on what was read before it

abbrev pub then_on : {X Y Z : Type 0} → SyntaxPart X → SyntaxPart Y → (Z → Y → Type 0) → (X → Z) → SyntaxPart (X × Y)
then_on one base M key = record {
  behind = λ both rest. base.behind both.1 (one.behind both.0 rest);
  May = λ both. one.May both.0 × M (key both.0) both.1;
  Same = λ a b. one.Same a.0 b.0 × base.Same a.1 b.1;
  ends = base.ends;
}

abbrev pub restricted : {Y : Type 0} → SyntaxPart Y → (Y → Type 0) → SyntaxPart Y
restricted base May = record { behind = base.behind; May = May; Same = base.Same; ends = base.ends }

pub reads_then_on : {X Y Z : Type 0} {one : SyntaxPart X} (base : SyntaxPart Y) (M : Z → Y → Type 0) {old mid new : Parser} {a : X} {b : Y} (key : X → Z)
    → ((y : Y) → base.behind y None ≡ None) → ((y : Y) (here rest : List Token) → base.behind y (Some here) ≡ Some rest → base.ends rest ≡ true → one.ends here ≡ true)
    → ((x : X) → one.Same a x → key x ≡ key a) → HasRead one old mid a → HasRead (restricted base (M (key a))) mid new b → HasRead (then_on one base M key) old new (a, b)
reads_then_on {X} {Y} {Z} {one} base M {old} {mid} {new} {a} {b} key strict follows alike r s = record {
  goes = keeps_on r.goes s.goes;
  finds = finds;
  stands = λ sound. ap (λ (z : Rest). base.behind b z) (r.stands (sound_before s.goes sound)) ∙ s.stands sound;
  may = λ sound. (r.may (sound_before s.goes sound), s.may sound);
}
  where
    second : (x : X) (y : Y) (here rest : List Token) → base.behind y (Some here) ≡ Some rest → M (key x) y → base.ends rest ≡ true
        → Finds mid here (one.Same a x) → Finds new rest (one.Same a x × base.Same b y)
    second x y here rest e may ends (inl memory) = inl (s.goes.sticks Memory memory)
    second x y here rest e may ends (inr (stands, same)) =
        found_as (λ so. (same, so))
        (s.finds y rest stands.sound (ap (λ (z : List Token). base.behind y (Some z)) stands.left ∙ e) (subst (λ (k : Z). M k y) (alike x same) may) ends)

    finds : (both : X × Y) (rest : List Token) → old.fault ≡ None → base.behind both.1 (one.behind both.0 (Some old.rest.now)) ≡ Some rest
        → one.May both.0 × M (key both.0) both.1 → base.ends rest ≡ true → Finds new rest (one.Same a both.0 × base.Same b both.1)
    finds (x, y) rest sound e (may_x, may_y) ends =
        let between = left_before (base.behind y) (strict y) (one.behind x (Some old.rest.now)) rest e in
        let f = ap (base.behind y) (sym between.1) ∙ e in
        second x y between.0 rest f may_y ends (r.finds x between.0 sound between.1 may_x (follows y between.0 rest f ends))

-- ---- a loop

abbrev pub loop_head_parts : Scope → SyntaxPart ((ℕ × Span) × Unit {0})
loop_head_parts scope = then_part (then_part (variable_part scope) (span_part scope.in_parameter)) (piece_part piece.LineEnd)

abbrev pub name_read : (ℕ × Span) × Unit {0} → ℕ
name_read x = x.0.0

abbrev pub loop_body_parts : Scope → ℕ → SyntaxPart (((ℕ × Span) × Unit {0}) × SpmdStatement)
loop_body_parts scope depth = then_on (loop_head_parts scope) (statements_part scope depth) (λ k. MayStatements (within_loop k scope) depth) name_read

abbrev pub loop_parts : Scope → ℕ → SyntaxPart ((((ℕ × Span) × Unit {0}) × SpmdStatement) × Unit {0})
loop_parts scope depth = then_part (loop_body_parts scope depth) (end_part false)

abbrev pub behind_span : Span → Rest → Rest
behind_span span rest = after_gap (pos span.step) (after_value span.last (after_piece (piece.Word word.To) (after_value span.first rest)))

-- a loop from its variable on
abbrev pub behind_word : ℕ → Span → SpmdStatement → Rest → Rest
behind_word k span a rest = after_end false (after_statement a (after_piece piece.LineEnd (behind_span span (after_piece piece.Equals (after_piece (piece.Name k) rest)))))

pub span_strict : (span : Span) → behind_span span None ≡ None
span_strict span = none_of (λ z. after_gap (pos span.step) z) (gap_strict span.step) _ (value_of span.last _ (after_of (piece.Word word.To) _ (value_strict span.first)))

word_none : (k : ℕ) (span : Span) (a : SpmdStatement) → behind_word k span a None ≡ None
word_none k span a = none_of (after_end false) (end_strict false) _ (none_of (after_statement a) (statement_strict a) _ (after_of piece.LineEnd _ (span_strict span)))

pub repeat_back : (old : Parser) (depth line : ℕ) (w : SpmdStatement) (rest : List Token) → old.fault ≡ None → Begins (scope_of old) depth word.For w
    → after_statement w (put_back line word.For (Some old.rest.now)) ≡ Some rest → ends_behind word.For rest ≡ true
    → (x : (((ℕ × Span) × Unit {0}) × SpmdStatement) × Unit {0}) × SyntaxPart.May (loop_parts (scope_of old) (depth - 1)) x
    × (behind_word x.0.0.0.0 x.0.0.0.1 x.0.1 (Some old.rest.now) ≡ Some rest) × (true ≡ true) × Unit {0}
repeat_back old depth line w rest sound may e ends =
    let i = is_loop w may.one may.begins in
    let o = subst (Obeys (scope_of old) depth) i.is may.obeys in
    let span : Span = record { first = i.first; last = i.last; step = i.step } in
    let f = subst (λ (z : SpmdStatement). after_statement z (put_back line word.For (Some old.rest.now)) ≡ Some rest) i.is e in
    let g = only_left (not (is_branch i.body)) (behind_word i.name span i.body (after_start i.line word.For (put_back line word.For (Some old.rest.now)))) rest f in (
      ((((i.name, span), tt), i.body), tt),
      ((((o.1, record { first = o.2; last = o.3; step = o.4 }), tt), record { plain = not_so (is_branch i.body) g.0; obeys = o.5 }), tt),
      start_behind (behind_word i.name span i.body) (word_none i.name span i.body) i.line line word.For word.For old.rest.now rest g.1,
      refl,
      tt,
    )

pub repeat_none : (old : Parser) (depth : ℕ) (w : SpmdStatement) → depth ≡ 0 → Begins (scope_of old) depth word.For w → ⊥
repeat_none old depth w none may =
    let i = is_loop w may.one may.begins in
    let o = subst (Obeys (scope_of old) depth) i.is may.obeys in
    let low : 1 ≤ depth = o.0 in omega (arith, low, none)

pub repeat_so : (old : Parser) (depth line k : ℕ) (span : Span) (a made : SpmdStatement) → 1 ≤ depth → IsRepeat line k span a made → (rest : List Token)
    → behind_word k span a (Some old.rest.now) ≡ Some rest → SyntaxPart.May (loop_parts (scope_of old) (depth - 1)) ((((k, span), tt), a), tt)
    → (after_statement made (put_back line word.For (Some old.rest.now)) ≡ Some rest) × Begins (scope_of old) depth word.For made
repeat_so old depth line k span a made deep m rest e may = (
  ap (λ (z : SpmdStatement). after_statement z start) m.is
      ∙ (ap (λ (v : SpmdStatement). only (not (is_branch v)) (behind_word k span v begun)) m.holds
      ∙ (ap (λ (b : Bool). only (not b) (behind_word k span a begun)) may.0.1.plain
      ∙ (ap (behind_word k span a) (start_same line word.For old.rest.now) ∙ e))),
  subst (Begins (scope_of old) depth word.For) (sym m.is)
      (record { one = refl; begins = refl; obeys = (deep, may.0.0.0.0, may.0.0.0.1.first, may.0.0.0.1.last, may.0.0.0.1.step, subst (Obeys (within_loop k (scope_of old)) (depth - 1)) (sym m.holds) may.0.1.obeys) }),
)
  where
    start : Rest
    start = put_back line word.For (Some old.rest.now)

    begun : Rest
    begun = after_start line word.For start

-- ---- the end of a block

pub end_as : (old : Parser) → IsAs (then_part (piece_part (piece.Word word.End)) (piece_part piece.LineEnd)) (end_part false) old (tt {0}, tt {0}) (tt {0})
end_as old = record { back = λ w rest sound may e ends. ((tt, tt), (tt, tt), e, refl, λ same. tt); stands = λ rest e may. e; may = λ m. tt }

-- ---- the statements of a loop

pub body_read : {old pushed new : Parser} {s : SpmdStatement} (name depth : ℕ) → pushed ≡ record old { loops = pushed.loops } → pushed.loops.items ≡ old.loops.items ++ name ∷ []
    → IsInside pushed new depth s → HasRead (statements_part (within_loop name (scope_of old)) depth) old new s
body_read {old} {pushed} {new} {s} name depth frame items inner = record {
  goes = record {
    names = ap (λ (p : Parser). p.names.now) inner.frame ∙ (r.goes.names ∙ ap (λ (p : Parser). p.names.now) frame);
    in_parameter = ap (λ (p : Parser). p.in_parameter) inner.frame ∙ (r.goes.in_parameter ∙ ap (λ (p : Parser). p.in_parameter) frame);
    parameters = ap (λ (p : Parser). p.parameters.items) inner.frame ∙ (r.goes.parameters ∙ ap (λ (p : Parser). p.parameters.items) frame);
    loops = inner.loops old.loops.items name (r.goes.loops ∙ items);
    shorter = omega (arith, ap (λ (p : Parser). length p.rest.now) inner.frame, r.goes.shorter, ap (λ (p : Parser). length p.rest.now) frame);
    sticks = λ why e. fault_new ∙ r.goes.sticks why (fault_old ∙ e);
  };
  finds = λ x rest sound e may ends.
      to_new rest (r.finds x rest (fault_old ∙ sound) (ap (λ (z : List Token). after_statement x (Some z)) rest_old ∙ e) (subst (λ (k : Scope). MayStatements k depth x) (sym scope_so) may) ends);
  stands = λ sound. ap (λ (z : List Token). after_statement s (Some z)) (sym rest_old) ∙ (r.stands (sym fault_new ∙ sound) ∙ ap Some (sym rest_new));
  may = λ sound. subst (λ (k : Scope). MayStatements k depth s) scope_so (r.may (sym fault_new ∙ sound));
}
  where
    r : HasRead (statements_part (scope_of pushed) depth) pushed inner.mid s
    r = inner.reads

    fault_old : pushed.fault ≡ old.fault
    fault_old = ap (λ (p : Parser). p.fault) frame

    rest_old : pushed.rest.now ≡ old.rest.now
    rest_old = ap (λ (p : Parser). p.rest.now) frame

    fault_new : new.fault ≡ inner.mid.fault
    fault_new = ap (λ (p : Parser). p.fault) inner.frame

    rest_new : new.rest.now ≡ inner.mid.rest.now
    rest_new = ap (λ (p : Parser). p.rest.now) inner.frame

    scope_so : scope_of pushed ≡ within_loop name (scope_of old)
    scope_so =
        ap (λ (n : List ℕ). record { in_parameter = pushed.in_parameter; names = pushed.names.now; parameters = pushed.parameters.items; loops = n }) items
        ∙ ap (λ (p : Parser). record { in_parameter = p.in_parameter; names = p.names.now; parameters = p.parameters.items; loops = old.loops.items ++ name ∷ [] }) frame

    to_new : (rest : List Token) {A : Type 0} → Finds inner.mid rest A → Finds new rest A
    to_new rest (inl memory) = inl (fault_new ∙ memory)
    to_new rest (inr (there, a)) = inr (record { sound = fault_new ∙ there.sound; left = rest_new ∙ there.left }, a)

-- want of memory is noted before a part is read
pub no_memory : {X : Type 0} {part : SyntaxPart X} {old pushed new : Parser} {a : X} → pushed ≡ record old { loops = pushed.loops } → pushed.loops.items ≡ old.loops.items
    → new ≡ record pushed { fault = first_noted pushed.fault Memory } → HasRead part old new a
no_memory {X} {part} {old} {pushed} {new} {a} frame items is = record {
  goes = record {
    names = after_fault.names ∙ ap (λ (p : Parser). p.names.now) frame;
    in_parameter = after_fault.in_parameter ∙ ap (λ (p : Parser). p.in_parameter) frame;
    parameters = after_fault.parameters ∙ ap (λ (p : Parser). p.parameters.items) frame;
    loops = after_fault.loops ∙ items;
    shorter = omega (arith, after_fault.shorter, ap (λ (p : Parser). length p.rest.now) frame);
    sticks = λ why e. after_fault.sticks why (ap (λ (p : Parser). p.fault) frame ∙ e);
  };
  finds = λ x rest sound e may ends.
      inl (ap (λ (p : Parser). p.fault) is ∙ ap (λ (f : Option ParseReason). first_noted f Memory) (ap (λ (p : Parser). p.fault) frame ∙ sound));
  stands = λ sound. absurd (never_failed pushed new Memory is sound);
  may = λ sound. absurd (never_failed pushed new Memory is sound);
}
  where
    after_fault : Keeps pushed new
    after_fault = keeps_of (goes_failed pushed new Memory is)

-- neither an `elif` nor an `else` comes next
pub tail_none : {old mid new : Parser} (scope : Scope) (depth : ℕ) → mid ≡ old → new ≡ mid
    → (old.fault ≡ None → piece_begins (piece.Word word.Elif) (Some old.rest.now) ≡ false) → (mid.fault ≡ None → piece_begins (piece.Word word.Else) (Some mid.rest.now) ≡ false)
    → HasRead (tail_part scope depth) old new statement.Nothing
unfolding is_tail
tail_none {old} {mid} {new} scope depth same again no_elif no_else_mid = record {
  goes = keeps_same whole;
  finds = λ x rest sound e may ends. by_form x rest sound may.tail e;
  stands = λ sound. ap (λ (p : Parser). Some p.rest.now) (sym whole);
  may = λ sound. record { tail = refl; obeys = tt };
}
  where
    whole : new ≡ old
    whole = again ∙ same

    no_else : old.fault ≡ None → piece_begins (piece.Word word.Else) (Some old.rest.now) ≡ false
    no_else = subst (λ (p : Parser). p.fault ≡ None → piece_begins (piece.Word word.Else) (Some p.rest.now) ≡ false) same no_else_mid

    by_form : (x : SpmdStatement) (rest : List Token) → old.fault ≡ None → is_tail x ≡ true → after_statement x (Some old.rest.now) ≡ Some rest → Finds new rest (Unit {0})
    by_form statement.Nothing rest sound tail e =
        inr (record { sound = ap (λ (p : Parser). p.fault) whole ∙ sound; left = ap (λ (p : Parser). p.rest.now) whole ∙ same_Some old.rest.now rest e }, tt)
    by_form (statement.Sequence' p a q b) rest sound tail e = absurd (let never : false ≡ true = tail in cc)
    by_form (statement.Parameter line name v) rest sound tail e = absurd (let never : false ≡ true = tail in cc)
    by_form (statement.Assign line name v) rest sound tail e = absurd (let never : false ≡ true = tail in cc)
    by_form (statement.When' line true c p a q b) rest sound tail e =
        absurd (let never : false ≡ true = sym (no_elif sound) ∙ one_begins (statement.When' line true c p a q b) refl old.rest.now rest e in cc)
    by_form (statement.When' line false c p a q b) rest sound tail e = absurd (let never : false ≡ true = tail in cc)
    by_form (statement.Otherwise' p a) rest sound tail e =
        absurd (let never : false ≡ true = sym (no_else sound) ∙ one_begins (statement.Otherwise' p a) refl old.rest.now rest e in cc)
    by_form (statement.Repeat' line name first last step p a) rest sound tail e = absurd (let never : false ≡ true = tail in cc)
    by_form (statement.Call line c) rest sound tail e = absurd (let never : false ≡ true = tail in cc)
    by_form (statement.WaitAll line requests) rest sound tail e = absurd (let never : false ≡ true = tail in cc)
    by_form (statement.Unreached line) rest sound tail e = absurd (let never : false ≡ true = tail in cc)

-- the last item of two equal lists
pub last_same : {A : Type 0} (xs ys : List A) (x y : A) → xs ++ x ∷ [] ≡ ys ++ y ∷ [] → (xs ≡ ys) × (x ≡ y)
last_same [] [] x y e = (refl, cc)
last_same [] (z ∷ zs) x y e = absurd (let many : length (x ∷ []) ≡ length ((z ∷ zs) ++ y ∷ []) = ap length e in omega (arith, many, length-append (z ∷ zs) (y ∷ [])))
last_same (z ∷ zs) [] x y e = absurd (let many : length ((z ∷ zs) ++ x ∷ []) ≡ length (y ∷ []) = ap length e in omega (arith, many, length-append (z ∷ zs) (x ∷ [])))
last_same (w ∷ ws) (z ∷ zs) x y e =
    let rest = last_same ws zs x y (ap (λ (l : List _). drop 1 l) e) in
    let first : w ≡ z = cc in
    (ap (λ (l : List _). w ∷ l) rest.0 ∙ ap (λ (v : _). v ∷ zs) first, rest.1)
