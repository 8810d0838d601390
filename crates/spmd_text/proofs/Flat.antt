-- Statements one after another: a tree of them and the list say the same.
use Rattle.std.proofs.Common.{◌≡◌, ◌⊎◌, ℕ, Bool, true, false, not, ◌&&◌, ◌||◌, List, [], ◌∷◌, ◌++◌, Option, Some, None, refl, ap, sym, subst, ◌∙◌, inl, inr}
use Rattle.std.proofs.lemmas.Option.{same_Some}
use Rattle.spmd_tree.specs.declared.tree.SpmdStatement.{SpmdStatement}
use Rattle.spmd_tree.specs.declared.tree.SpmdStatement.TheVariants as statement
use Rattle.spmd_text.specs.declared.calls.Form.{Form}
use Rattle.spmd_text.specs.declared.fault.ParseReason.{ParseReason}
use Rattle.spmd_text.specs.declared.fault.ParseReason.TheVariants.{Memory}
use Rattle.spmd_text.specs.declared.parser.Parser.{Parser}
use Rattle.spmd_text.specs.declared.piece.Word.{Word}
use Rattle.spmd_text.specs.declared.piece.Word.TheVariants as word
use Rattle.spmd_text.specs.declared.piece.Piece.{Piece}
use Rattle.spmd_text.specs.declared.piece.Piece.TheVariants as piece
use Rattle.spmd_text.specs.declared.piece.Token.{Token}
use Rattle.spmd_text.specs.parts.Reading.{Finds, next, next_of}
use Rattle.spmd_text.specs.Spelling.{Rest, after_statement, piece_begins, call_word, is_branch, only}
use Rattle.spmd_text.specs.parts.Parts.{Keeps, HasRead, syntax_form, form_of_call}
use Rattle.spmd_text.specs.parts.Statements.{Begins, Left, MakesOrLacksMemory, MayAll, MayStatements, RowSoFar, behind_all, ends_behind, ends_statements, first_word, flat, flat_all, is_end, is_first, is_one, one_part, scope_of, statements_part, keyword_of}
use Rattle.spmd_text.specs.Statements.{Obeys, Scope}
use Rattle.spmd_text.proofs.BlockForms.{next_begins, not_so}
use Rattle.spmd_text.proofs.BlockWords.{one_begins, same_begin, statement_strict}
use Rattle.spmd_text.proofs.Following.{and_left, and_right, both_true}
use Rattle.spmd_text.proofs.Made.{finds_made, made_goes, made_sound}
use Rattle.spmd_text.proofs.NoStar.{left_before, only_left}
use Rattle.spmd_text.proofs.Parts.{keeps_on, keeps_same, sound_before}
use Rattle.spmd_text.proofs.Pieces.{piece_is}
use Rattle.spmd_text.proofs.Scopes.{on_scope}
use Rattle.spmd_text.proofs.Starts.{form_of_word}

-- ---- lists

pub all_strict : (xs : List SpmdStatement) → behind_all xs None ≡ None
all_strict [] = refl
all_strict (s ∷ ss) = ap (behind_all ss) (statement_strict s) ∙ all_strict ss

pub behind_append : (xs ys : List SpmdStatement) (z : Rest) → behind_all (xs ++ ys) z ≡ behind_all ys (behind_all xs z)
behind_append [] ys z = refl
behind_append (s ∷ ss) ys z = behind_append ss ys (after_statement s z)

pub may_append : (scope : Scope) (depth : ℕ) (xs ys : List SpmdStatement) → MayAll scope depth xs → MayAll scope depth ys → MayAll scope depth (xs ++ ys)
may_append scope depth [] ys m n = n
may_append scope depth (s ∷ ss) ys m n = (m.0, may_append scope depth ss ys m.1 n)

pub may_parts : (scope : Scope) (depth : ℕ) (xs ys : List SpmdStatement) → MayAll scope depth (xs ++ ys) → MayAll scope depth xs × MayAll scope depth ys
may_parts scope depth [] ys m = (tt, m)
may_parts scope depth (s ∷ ss) ys m = let n = may_parts scope depth ss ys m.1 in ((m.0, n.0), n.1)

append_assoc : (xs ys zs : List SpmdStatement) → (xs ++ ys) ++ zs ≡ xs ++ (ys ++ zs)
append_assoc [] ys zs = refl
append_assoc (x ∷ xs) ys zs = ap (λ (l : List SpmdStatement). x ∷ l) (append_assoc xs ys zs)

append_nothing : (xs : List SpmdStatement) → xs ++ [] ≡ xs
append_nothing [] = refl
append_nothing (x ∷ xs) = ap (λ (l : List SpmdStatement). x ∷ l) (append_nothing xs)

pub flat_append : (xs ys : List SpmdStatement) → flat_all (xs ++ ys) ≡ flat_all xs ++ flat_all ys
flat_append [] ys = refl
flat_append (x ∷ xs) ys = ap (λ (l : List SpmdStatement). flat x ++ l) (flat_append xs ys) ∙ sym (append_assoc (flat x) (flat_all xs) (flat_all ys))

pub one_flat : (s : SpmdStatement) → is_one s ≡ true → flat s ≡ s ∷ []
one_flat statement.Nothing one = absurd (let never : false ≡ true = one in cc)
one_flat (statement.Sequence' p a q b) one = absurd (let never : false ≡ true = one in cc)
one_flat s one = refl

-- ---- the list of a tree

single_of : (scope : Scope) (depth : ℕ) (s : SpmdStatement) (z : Rest) (rest : List Token) → is_one s ≡ true → is_branch s ≡ false → Obeys scope depth s → after_statement s z ≡ Some rest
    → MayAll scope depth (flat s) × (behind_all (flat s) z ≡ Some rest)
single_of scope depth s z rest one plain obeys e =
    subst (λ (xs : List SpmdStatement). MayAll scope depth xs × (behind_all xs z ≡ Some rest)) (sym (one_flat s one)) ((record { one = one; plain = plain; obeys = obeys }, tt), e)

pub flat_of : (scope : Scope) (depth : ℕ) (s : SpmdStatement) (z : Rest) (rest : List Token) → is_branch s ≡ false → Obeys scope depth s → after_statement s z ≡ Some rest
    → MayAll scope depth (flat s) × (behind_all (flat s) z ≡ Some rest)
flat_of scope depth statement.Nothing z rest plain obeys e = (tt, e)
flat_of scope depth (statement.Sequence' p a q b) z rest plain obeys e =
    let o = only_left (not (is_branch a) && not (is_branch b)) (after_statement b (after_statement a z)) rest e in
    let between = left_before (after_statement b) (statement_strict b) (after_statement a z) rest o.1 in
    let one = flat_of scope depth a z between.0 (not_so (is_branch a) (and_left (not (is_branch a)) (not (is_branch b)) o.0)) obeys.0 between.1 in
    let two = flat_of scope depth b (Some between.0) rest (not_so (is_branch b) (and_right (not (is_branch a)) (not (is_branch b)) o.0)) obeys.1 (ap (after_statement b) (sym between.1) ∙ o.1) in (
      may_append scope depth (flat a) (flat b) one.0 two.0,
      behind_append (flat a) (flat b) z ∙ (ap (behind_all (flat b)) one.1 ∙ two.1),
    )
flat_of scope depth (statement.Parameter line name v) z rest plain obeys e = absurd obeys
flat_of scope depth (statement.Assign line name v) z rest plain obeys e = single_of scope depth (statement.Assign line name v) z rest refl plain obeys e
flat_of scope depth (statement.When' line chained c p a q b) z rest plain obeys e = single_of scope depth (statement.When' line chained c p a q b) z rest refl plain obeys e
flat_of scope depth (statement.Otherwise' p a) z rest plain obeys e = single_of scope depth (statement.Otherwise' p a) z rest refl plain obeys e
flat_of scope depth (statement.Repeat' line name first last step p a) z rest plain obeys e = single_of scope depth (statement.Repeat' line name first last step p a) z rest refl plain obeys e
flat_of scope depth (statement.Call line c) z rest plain obeys e = single_of scope depth (statement.Call line c) z rest refl plain obeys e
flat_of scope depth (statement.WaitAll line requests) z rest plain obeys e = single_of scope depth (statement.WaitAll line requests) z rest refl plain obeys e
flat_of scope depth (statement.Unreached line) z rest plain obeys e = single_of scope depth (statement.Unreached line) z rest refl plain obeys e

-- the tree says what the list says
pub of_flat : (scope : Scope) (depth : ℕ) (s : SpmdStatement) → MayAll scope depth (flat s)
    → MayStatements scope depth s × ((z : Rest) (rest : List Token) → behind_all (flat s) z ≡ Some rest → after_statement s z ≡ Some rest)
of_flat scope depth statement.Nothing m = (record { plain = refl; obeys = tt }, λ z rest e. e)
of_flat scope depth (statement.Sequence' p a q b) m =
    let parts = may_parts scope depth (flat a) (flat b) m in
    let one = of_flat scope depth a parts.0 in
    let two = of_flat scope depth b parts.1 in (
      record { plain = refl; obeys = (one.0.obeys, two.0.obeys) },
      λ z rest e.
          let f = sym (behind_append (flat a) (flat b) z) ∙ e in
          let between = left_before (behind_all (flat b)) (all_strict (flat b)) (behind_all (flat a) z) rest f in
          ap (λ (k : Bool). only k (after_statement b (after_statement a z))) (both_true (not (is_branch a)) (not (is_branch b)) (ap not one.0.plain) (ap not two.0.plain))
          ∙ (ap (after_statement b) (one.1 z between.0 between.1) ∙ two.1 (Some between.0) rest (ap (behind_all (flat b)) (sym between.1) ∙ f)),
    )
of_flat scope depth (statement.Parameter line name v) m = absurd m.0.obeys
of_flat scope depth (statement.Assign line name v) m = (record { plain = m.0.plain; obeys = m.0.obeys }, λ z rest e. e)
of_flat scope depth (statement.When' line chained c p a q b) m = (record { plain = m.0.plain; obeys = m.0.obeys }, λ z rest e. e)
of_flat scope depth (statement.Otherwise' p a) m = (record { plain = m.0.plain; obeys = m.0.obeys }, λ z rest e. e)
of_flat scope depth (statement.Repeat' line name first last step p a) m = (record { plain = m.0.plain; obeys = m.0.obeys }, λ z rest e. e)
of_flat scope depth (statement.Call line c) m = (record { plain = m.0.plain; obeys = m.0.obeys }, λ z rest e. e)
of_flat scope depth (statement.WaitAll line requests) m = (record { plain = m.0.plain; obeys = m.0.obeys }, λ z rest e. e)
of_flat scope depth (statement.Unreached line) m = (record { plain = m.0.plain; obeys = m.0.obeys }, λ z rest e. e)

-- ---- words that statements begin with

some_word : (v w : Word) → Some v ≡ Some w → v ≡ w
some_word v w e = cc

first_word_is : (v w : Word) → is_first v ≡ true → Some v ≡ Some w → (piece.Word v ≡ piece.Word w) × (is_first w ≡ true)
first_word_is v w first e = let same = some_word v w e in (ap piece.Word same, ap is_first (sym same) ∙ first)

pub word_of_is : (p : Piece) (w : Word) → keyword_of p ≡ Some w → (p ≡ piece.Word w) × (is_first w ≡ true)
word_of_is (piece.Word word.End) w e = absurd (let never : None ≡ Some w = e in cc)
word_of_is (piece.Word word.Else) w e = absurd (let never : None ≡ Some w = e in cc)
word_of_is (piece.Word word.Elif) w e = absurd (let never : None ≡ Some w = e in cc)
word_of_is (piece.Word v) w e = first_word_is v w refl e
word_of_is p w e = absurd (let never : None ≡ Some w = e in cc)

pub first_ends : (w : Word) (rest : List Token) → is_first w ≡ true → ends_behind w rest ≡ true
first_ends word.Elif rest first = absurd (let never : false ≡ true = first in cc)
first_ends word.Else rest first = absurd (let never : false ≡ true = first in cc)
first_ends w rest first = refl

first_of : (s : SpmdStatement) (w : Word) → first_word s ≡ w → is_first w ≡ true → is_first (first_word s) ≡ true
first_of s w e first = ap is_first e ∙ first

pub first_plain : (s : SpmdStatement) → is_first (first_word s) ≡ true → is_branch s ≡ false
first_plain (statement.When' line true c p a q b) first = absurd (let never : false ≡ true = first in cc)
first_plain (statement.Otherwise' p a) first = absurd (let never : false ≡ true = first in cc)
first_plain (statement.When' line false c p a q b) first = refl
first_plain s first = refl

call_begins : (v : Word) (f : Form) → syntax_form v ≡ Some f → keyword_of (piece.Word v) ≡ Some v
call_begins word.End f e = absurd (let never : None ≡ Some f = e in cc)
call_begins word.Else f e = absurd (let never : None ≡ Some f = e in cc)
call_begins word.Elif f e = absurd (let never : None ≡ Some f = e in cc)
call_begins v f e = refl

pub plain_first : (s : SpmdStatement) → is_one s ≡ true → is_branch s ≡ false → keyword_of (piece.Word (first_word s)) ≡ Some (first_word s)
plain_first statement.Nothing one plain = absurd (let never : false ≡ true = one in cc)
plain_first (statement.Sequence' p a q b) one plain = absurd (let never : false ≡ true = one in cc)
plain_first (statement.Parameter line name v) one plain = absurd (let never : false ≡ true = one in cc)
plain_first (statement.Assign line name v) one plain = refl
plain_first (statement.When' line true c p a q b) one plain = absurd (let never : true ≡ false = plain in cc)
plain_first (statement.When' line false c p a q b) one plain = refl
plain_first (statement.Otherwise' p a) one plain = absurd (let never : true ≡ false = plain in cc)
plain_first (statement.Repeat' line name first last step p a) one plain = refl
plain_first (statement.Call line c) one plain = call_begins (call_word c) (form_of_call c) (form_of_word c)
plain_first (statement.WaitAll line requests) one plain = refl
plain_first (statement.Unreached line) one plain = refl

-- what ends statements is no word that one begins with
or_cases : (a b : Bool) → (a || b) ≡ true → (a ≡ true) ⊎ (b ≡ true)
or_cases true b e = inl refl
or_cases false b e = inr e

pub ends_is_end : (here : List Token) → ends_statements here ≡ true → is_end (next_of None here) ≡ true
ends_is_end [] e = absurd (let never : false ≡ true = e in cc)
ends_is_end (t ∷ ts) e = by_half (or_cases _ _ e)
  where
    by_piece : (p : Piece) → is_end p ≡ true → piece_begins p (Some (t ∷ ts)) ≡ true → is_end t.piece ≡ true
    by_piece p is f = ap is_end (piece_is p t.piece f) ∙ is

    by_first : (piece_begins (piece.Word word.End) (Some (t ∷ ts)) ≡ true) ⊎ (piece_begins (piece.Word word.Else) (Some (t ∷ ts)) ≡ true) → is_end t.piece ≡ true
    by_first (inl f) = by_piece (piece.Word word.End) refl f
    by_first (inr f) = by_piece (piece.Word word.Else) refl f

    by_second : (piece_begins (piece.Word word.Elif) (Some (t ∷ ts)) ≡ true) ⊎ (piece_begins piece.TextEnd (Some (t ∷ ts)) ≡ true) → is_end t.piece ≡ true
    by_second (inl f) = by_piece (piece.Word word.Elif) refl f
    by_second (inr f) = by_piece piece.TextEnd refl f

    by_half : ((piece_begins (piece.Word word.End) (Some (t ∷ ts)) || piece_begins (piece.Word word.Else) (Some (t ∷ ts))) ≡ true) ⊎ ((piece_begins (piece.Word word.Elif) (Some (t ∷ ts)) || piece_begins piece.TextEnd (Some (t ∷ ts))) ≡ true) → is_end t.piece ≡ true
    by_half (inl f) = by_first (or_cases (piece_begins (piece.Word word.End) (Some (t ∷ ts))) (piece_begins (piece.Word word.Else) (Some (t ∷ ts))) f)
    by_half (inr f) = by_second (or_cases (piece_begins (piece.Word word.Elif) (Some (t ∷ ts))) (piece_begins piece.TextEnd (Some (t ∷ ts))) f)

end_no_word : (p : Piece) → is_end p ≡ true → keyword_of p ≡ None
end_no_word (piece.Word word.End) e = refl
end_no_word (piece.Word word.Else) e = refl
end_no_word (piece.Word word.Elif) e = refl
end_no_word piece.TextEnd e = refl
end_no_word p e = absurd (let never : false ≡ true = e in cc)

-- ---- the row so far

pub row_begun : (old : Parser) (depth : ℕ) → RowSoFar old old depth []
row_begun old depth = record {
  goes = keeps_same refl;
  finds = λ row rest sound e may ends. inr (record { sound = sound; row = row; spelled = e; may = may });
  stands = λ sound. refl;
  may = λ sound. tt;
}

pub row_more : {old s mid new : Parser} {depth : ℕ} {list longer : List SpmdStatement} (w : Word) (item : SpmdStatement) → RowSoFar old s depth list → keyword_of (next s) ≡ Some w
    → HasRead (one_part (scope_of s) depth w) s mid item → MakesOrLacksMemory mid new (longer ≡ list ++ item ∷ []) → RowSoFar old new depth longer
row_more {old} {s} {mid} {new} {depth} {list} {longer} w item so_far is reads makes = record {
  goes = keeps_on so_far.goes (keeps_on r.goes (made_goes makes));
  finds = λ row rest sound e may ends. by_left rest ends (so_far.finds row rest sound e may ends);
  stands = stands;
  may = may;
}
  where
    r : HasRead (one_part (scope_of old) depth w) s mid item
    r = on_scope (λ scope. one_part scope depth w) so_far.goes reads

    known : (next s ≡ piece.Word w) × (is_first w ≡ true)
    known = word_of_is (next s) w is

    by_found : (rest between : List Token) (xs : List SpmdStatement) → behind_all xs (Some between) ≡ Some rest → MayAll (scope_of old) depth xs → Finds new between (Unit {0})
        → (new.fault ≡ Some Memory) ⊎ Left new (scope_of old) depth rest
    by_found rest between xs e may (inl memory) = inl memory
    by_found rest between xs e may (inr (there, any)) =
        inr (record { sound = there.sound; row = xs; spelled = ap (λ (z : List Token). behind_all xs (Some z)) there.left ∙ e; may = may })

    by_row : (rest : List Token) → ends_statements rest ≡ true → s.fault ≡ None → (row : List SpmdStatement) → behind_all row (Some s.rest.now) ≡ Some rest → MayAll (scope_of old) depth row
        → (new.fault ≡ Some Memory) ⊎ Left new (scope_of old) depth rest
    by_row rest ends sound [] e may =
        let at = ap ends_statements (same_Some s.rest.now rest e) ∙ ends in
        let none = end_no_word (next s) (ap (λ (f : Option ParseReason). is_end (next_of f s.rest.now)) sound ∙ ends_is_end s.rest.now at) in
        absurd (let never : None ≡ Some w = sym none ∙ is in cc)
    by_row rest ends sound (x ∷ xs) e may =
        let between = left_before (behind_all xs) (all_strict xs) (after_statement x (Some s.rest.now)) rest e in
        let begun : Begins (scope_of old) depth w x = record { one = may.0.one; begins = same_begin (first_word x) w s.rest.now (one_begins x may.0.one s.rest.now between.0 between.1) (next_begins w s.fault s.rest.now sound known.0); obeys = may.0.obeys } in
        by_found rest between.0 xs (ap (behind_all xs) (sym between.1) ∙ e) may.1
        (finds_made makes (r.finds x between.0 sound between.1 begun (first_ends w between.0 known.1)))

    by_left : (rest : List Token) → ends_statements rest ≡ true → (s.fault ≡ Some Memory) ⊎ Left s (scope_of old) depth rest → (new.fault ≡ Some Memory) ⊎ Left new (scope_of old) depth rest
    by_left rest ends (inl memory) = inl ((made_goes makes).sticks Memory (r.goes.sticks Memory memory))
    by_left rest ends (inr left) = by_row rest ends left.sound left.row left.spelled left.may

    longer_is : longer ≡ list ++ item ∷ [] → is_one item ≡ true → flat_all longer ≡ flat_all list ++ item ∷ []
    longer_is f one =
        ap flat_all f ∙ (flat_append list (item ∷ []) ∙ ap (λ (xs : List SpmdStatement). flat_all list ++ xs) (append_nothing (flat item) ∙ one_flat item one))

    stands : new.fault ≡ None → behind_all (flat_all longer) (Some old.rest.now) ≡ Some new.rest.now
    stands sound =
        let m = made_sound makes sound in
        let mid_sound = sound_before (made_goes makes) sound in
        let s_sound = sound_before r.goes mid_sound in
        ap (λ (xs : List SpmdStatement). behind_all xs (Some old.rest.now)) (longer_is m.1 (r.may mid_sound).one)
        ∙ (behind_append (flat_all list) (item ∷ []) (Some old.rest.now)
        ∙ (ap (after_statement item) (so_far.stands s_sound) ∙ (r.stands mid_sound ∙ ap (λ (p : Parser). Some p.rest.now) (sym m.0))))

    may : new.fault ≡ None → MayAll (scope_of old) depth (flat_all longer)
    may sound =
        let m = made_sound makes sound in
        let mid_sound = sound_before (made_goes makes) sound in
        let b = r.may mid_sound in
        subst (MayAll (scope_of old) depth) (sym (longer_is m.1 b.one))
        (may_append (scope_of old) depth (flat_all list) (item ∷ []) (so_far.may (sound_before r.goes mid_sound))
        (record { one = b.one; plain = first_plain item (first_of item w b.begins known.1); obeys = b.obeys }, tt))

pub row_ended : {old s mid new : Parser} {depth : ℕ} {list : List SpmdStatement} (made : SpmdStatement) → RowSoFar old s depth list → keyword_of (next s) ≡ None
    → Keeps s mid → (mid.fault ≡ None → (mid ≡ s) × (is_end (next s) ≡ true)) → (is_end (next s) ≡ true → mid ≡ s)
    → MakesOrLacksMemory mid new (flat made ≡ flat_all list) → HasRead (statements_part (scope_of old) depth) old new made
row_ended {old} {s} {mid} {new} {depth} {list} made so_far none goes sound_is fits makes = record {
  goes = keeps_on so_far.goes (keeps_on goes (made_goes makes));
  finds = λ x rest sound e may ends.
      let f = flat_of (scope_of old) depth x (Some old.rest.now) rest may.plain may.obeys e in
      by_left rest ends (so_far.finds (flat x) rest sound f.1 f.0 ends);
  stands = stands;
  may = λ sound. (whole sound).0;
}
  where
    by_row : (rest : List Token) → ends_statements rest ≡ true → s.fault ≡ None → (row : List SpmdStatement) → behind_all row (Some s.rest.now) ≡ Some rest → MayAll (scope_of old) depth row
        → Finds new rest (Unit {0})
    by_row rest ends sound [] e may =
        let same = same_Some s.rest.now rest e in
        let at = ap (λ (f : Option ParseReason). is_end (next_of f s.rest.now)) sound ∙ ends_is_end s.rest.now (ap ends_statements same ∙ ends) in
        let kept = fits at in
        finds_made makes (inr (record { sound = ap (λ (p : Parser). p.fault) kept ∙ sound; left = ap (λ (p : Parser). p.rest.now) kept ∙ same }, tt))
    by_row rest ends sound (x ∷ xs) e may =
        let between = left_before (behind_all xs) (all_strict xs) (after_statement x (Some s.rest.now)) rest e in
        let there = one_begins x may.0.one s.rest.now between.0 between.1 in
        absurd (let never : None ≡ Some (first_word x) = sym none ∙ (next_is (first_word x) s.fault s.rest.now sound there ∙ plain_first x may.0.one may.0.plain) in cc)
      where
        next_is : (v : Word) (fault : Option ParseReason) (here : List Token) → fault ≡ None → piece_begins (piece.Word v) (Some here) ≡ true → keyword_of (next_of fault here) ≡ keyword_of (piece.Word v)
        next_is v (Some why) here f g = absurd (let never : Some why ≡ None = f in cc)
        next_is v None [] f g = absurd (let never : false ≡ true = g in cc)
        next_is v None (t ∷ ts) f g = ap keyword_of (piece_is (piece.Word v) t.piece g)

    by_left : (rest : List Token) → ends_statements rest ≡ true → (s.fault ≡ Some Memory) ⊎ Left s (scope_of old) depth rest → Finds new rest (Unit {0})
    by_left rest ends (inl memory) = inl ((made_goes makes).sticks Memory (goes.sticks Memory memory))
    by_left rest ends (inr left) = by_row rest ends left.sound left.row left.spelled left.may

    whole : new.fault ≡ None → MayStatements (scope_of old) depth made × ((z : Rest) (rest : List Token) → behind_all (flat made) z ≡ Some rest → after_statement made z ≡ Some rest)
    whole sound =
        let mid_sound = sound_before (made_goes makes) sound in
        of_flat (scope_of old) depth made (subst (MayAll (scope_of old) depth) (sym (made_sound makes sound).1) (so_far.may (sound_before goes mid_sound)))

    stands : new.fault ≡ None → after_statement made (Some old.rest.now) ≡ Some new.rest.now
    stands sound =
        let m = made_sound makes sound in
        let mid_sound = sound_before (made_goes makes) sound in
        let same = (sound_is mid_sound).0 in
        (whole sound).1 (Some old.rest.now) new.rest.now
        (ap (λ (xs : List SpmdStatement). behind_all xs (Some old.rest.now)) m.1
        ∙ (so_far.stands (sound_before goes mid_sound) ∙ (ap (λ (p : Parser). Some p.rest.now) (sym same) ∙ ap (λ (p : Parser). Some p.rest.now) (sym m.0))))
