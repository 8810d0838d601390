-- Parameters one after another: a tree of them and the list say the same, and name the same names.
use Rattle.std.proofs.Common.{◌≡◌, ◌⊎◌, ℕ, Bool, true, false, not, ◌&&◌, nat_eq, List, [], ◌∷◌, ◌++◌, Option, Some, None, refl, ap, sym, subst, ◌∙◌, inl, inr}
use Rattle.std.proofs.lemmas.List.{append-nil, append_assoc}
use Rattle.std.proofs.lemmas.Option.{same_Some}
use Rattle.spmd_tree.specs.declared.tree.SpmdStatement.{SpmdStatement}
use Rattle.spmd_tree.specs.declared.tree.SpmdStatement.TheVariants as statement
use Rattle.spmd_text.specs.declared.fault.ParseReason.{ParseReason}
use Rattle.spmd_text.specs.declared.fault.ParseReason.TheVariants.{Memory}
use Rattle.spmd_text.specs.declared.parser.Parser.{Parser}
use Rattle.spmd_text.specs.declared.piece.Word.TheVariants as word
use Rattle.spmd_text.specs.declared.piece.Piece.TheVariants as piece
use Rattle.spmd_text.specs.declared.piece.Token.{Token}
use Rattle.spmd_text.specs.Words.{code}
use Rattle.spmd_text.specs.parts.Reading.{Finds, next_of}
use Rattle.spmd_text.specs.Spelling.{Rest, after_statement, piece_begins, is_branch, only}
use Rattle.spmd_text.specs.parts.Parts.{Keeps, SyntaxPart, any_end, lacks}
use Rattle.spmd_text.specs.parts.Statements.{MakesOrLacksMemory, behind_all, flat, flat_all, put_back}
use Rattle.spmd_text.specs.parts.Programs.{GrowsByParameters, MayParameter, Meets, ReadsParameter, ReadsParameters, is_parameter}
use Rattle.spmd_text.specs.Programs.{ObeyParameters, parameters_of}
use Rattle.spmd_text.proofs.BlockWords.{start_begins, statement_strict}
use Rattle.spmd_text.proofs.Flat.{all_strict, behind_append, flat_append}
use Rattle.spmd_text.proofs.Following.{both_true, lacks_not}
use Rattle.spmd_text.proofs.LeftOut.{not_next}
use Rattle.spmd_text.proofs.Made.{finds_made, made_goes, made_sound}
use Rattle.spmd_text.proofs.Meeting.{grown_then_kept, grows_on, grows_same, kept_then_grown, renamed, sound_by}
use Rattle.spmd_text.proofs.NoStar.{left_before, only_left}
use Rattle.spmd_text.proofs.ParameterForms.{behind_param, param_none}

-- ---- lists

abbrev pub names_of : List SpmdStatement → List ℕ
names_of [] = []
names_of (s ∷ ss) = parameters_of s ++ names_of ss

-- parameters one after another, behind those of these names
abbrev pub MayRow : List ℕ → List SpmdStatement → Type 0
MayRow names [] = Unit {0}
MayRow names (s ∷ ss) = MayParameter names s × MayRow (names ++ parameters_of s) ss

row_append : (names : List ℕ) (xs ys : List SpmdStatement) → MayRow names xs → MayRow (names ++ names_of xs) ys → MayRow names (xs ++ ys)
row_append names [] ys m n = subst (λ (l : List ℕ). MayRow l ys) (append-nil names) n
row_append names (s ∷ ss) ys m n =
    (m.0, row_append (names ++ parameters_of s) ss ys m.1 (subst (λ (l : List ℕ). MayRow l ys) (sym (append_assoc names (parameters_of s) (names_of ss))) n))

row_parts : (names : List ℕ) (xs ys : List SpmdStatement) → MayRow names (xs ++ ys) → MayRow names xs × MayRow (names ++ names_of xs) ys
row_parts names [] ys m = (tt, subst (λ (l : List ℕ). MayRow l ys) (sym (append-nil names)) m)
row_parts names (s ∷ ss) ys m =
    let n = row_parts (names ++ parameters_of s) ss ys m.1 in
    ((m.0, n.0), subst (λ (l : List ℕ). MayRow l ys) (append_assoc names (parameters_of s) (names_of ss)) n.1)

names_append : (xs ys : List SpmdStatement) → names_of (xs ++ ys) ≡ names_of xs ++ names_of ys
names_append [] ys = refl
names_append (s ∷ ss) ys =
    ap (λ (l : List ℕ). parameters_of s ++ l) (names_append ss ys) ∙ sym (append_assoc (parameters_of s) (names_of ss) (names_of ys))

names_flat : (s : SpmdStatement) → names_of (flat s) ≡ parameters_of s
names_flat statement.Nothing = refl
names_flat (statement.Sequence' p a q b) =
    names_append (flat a) (flat b)
    ∙ (ap (λ (l : List ℕ). l ++ names_of (flat b)) (names_flat a) ∙ ap (λ (l : List ℕ). parameters_of a ++ l) (names_flat b))
names_flat s = refl

names_longer : (list : List SpmdStatement) (item : SpmdStatement) (longer : List SpmdStatement) → longer ≡ list ++ item ∷ []
    → names_of (flat_all longer) ≡ names_of (flat_all list) ++ parameters_of item
names_longer list item longer e =
    ap (λ (l : List SpmdStatement). names_of (flat_all l)) e
    ∙ (ap names_of (flat_append list (item ∷ []))
    ∙ (names_append (flat_all list) (flat item ++ [])
    ∙ ap (λ (l : List ℕ). names_of (flat_all list) ++ l) (ap names_of (append-nil (flat item)) ∙ names_flat item)))

parameter_flat : (s : SpmdStatement) → is_parameter s ≡ true → flat s ≡ s ∷ []
parameter_flat (statement.Parameter line name e) one = refl
parameter_flat s one = absurd (let never : false ≡ true = one in cc)

flat_longer : (list : List SpmdStatement) (item : SpmdStatement) (longer : List SpmdStatement) → longer ≡ list ++ item ∷ [] → is_parameter item ≡ true
    → flat_all longer ≡ flat_all list ++ item ∷ []
flat_longer list item longer e one =
    ap flat_all e
    ∙ (flat_append list (item ∷ []) ∙ ap (λ (xs : List SpmdStatement). flat_all list ++ xs) (append-nil (flat item) ∙ parameter_flat item one))

-- ---- the list of a tree

pub parameters_plain : (names : List ℕ) (s : SpmdStatement) → ObeyParameters names s → is_branch s ≡ false
parameters_plain names statement.Nothing obeys = refl
parameters_plain names (statement.Sequence' p a q b) obeys = refl
parameters_plain names (statement.Parameter line name e) obeys = refl
parameters_plain names s obeys = absurd obeys

flat_row : (names : List ℕ) (s : SpmdStatement) (z : Rest) (rest : List Token) → ObeyParameters names s → after_statement s z ≡ Some rest
    → MayRow names (flat s) × (behind_all (flat s) z ≡ Some rest)
flat_row names statement.Nothing z rest obeys e = (tt, e)
flat_row names (statement.Sequence' p a q b) z rest obeys e =
    let o = only_left (not (is_branch a) && not (is_branch b)) (after_statement b (after_statement a z)) rest e in
    let between = left_before (after_statement b) (statement_strict b) (after_statement a z) rest o.1 in
    let one = flat_row names a z between.0 obeys.0 between.1 in
    let two = flat_row (names ++ parameters_of a) b (Some between.0) rest obeys.1 (ap (after_statement b) (sym between.1) ∙ o.1) in (
      row_append names (flat a) (flat b) one.0 (subst (λ (l : List ℕ). MayRow (names ++ l) (flat b)) (sym (names_flat a)) two.0),
      behind_append (flat a) (flat b) z ∙ (ap (behind_all (flat b)) one.1 ∙ two.1),
    )
flat_row names (statement.Parameter line name v) z rest obeys e = ((record { one = refl; obeys = obeys }, tt), e)
flat_row names s z rest obeys e = absurd obeys

-- the tree says what the list says
of_row : (names : List ℕ) (s : SpmdStatement) → MayRow names (flat s)
    → ObeyParameters names s × ((z : Rest) (rest : List Token) → behind_all (flat s) z ≡ Some rest → after_statement s z ≡ Some rest)
of_row names statement.Nothing m = (tt, λ z rest e. e)
of_row names (statement.Sequence' p a q b) m =
    let parts = row_parts names (flat a) (flat b) m in
    let one = of_row names a parts.0 in
    let two = of_row (names ++ parameters_of a) b (subst (λ (l : List ℕ). MayRow (names ++ l) (flat b)) (names_flat a) parts.1) in (
      (one.0, two.0),
      λ z rest e.
          let f = sym (behind_append (flat a) (flat b) z) ∙ e in
          let between = left_before (behind_all (flat b)) (all_strict (flat b)) (behind_all (flat a) z) rest f in
          ap (λ (k : Bool). only k (after_statement b (after_statement a z)))
          (both_true (not (is_branch a)) (not (is_branch b)) (ap not (parameters_plain names a one.0)) (ap not (parameters_plain (names ++ parameters_of a) b two.0)))
          ∙ (ap (after_statement b) (one.1 z between.0 between.1) ∙ two.1 (Some between.0) rest (ap (behind_all (flat b)) (sym between.1) ∙ f)),
    )
of_row names s m = (m.0.obeys, λ z rest e. e)

-- ---- one parameter from its word on

parameter_begins : (s : SpmdStatement) → is_parameter s ≡ true → (here rest : List Token) → after_statement s (Some here) ≡ Some rest → piece_begins (piece.Word word.Param) (Some here) ≡ true
parameter_begins (statement.Parameter line name v) one here rest e = start_begins (behind_param name v) (param_none name v) line word.Param here rest e
parameter_begins s one here rest e = absurd (let never : false ≡ true = one in cc)

abbrev pub one_parameter_part : List ℕ → SyntaxPart SpmdStatement
one_parameter_part names =
    record { behind = after_statement; May = MayParameter names; Same = λ a b. parameters_of a ≡ parameters_of b; ends = any_end }

pub record ReadsOne (old new : Parser) (found : SpmdStatement) : Type 0 where
  pub goes : GrowsByParameters old new (parameters_of found)
  pub meets : Meets (one_parameter_part old.parameters.items) old new found

pub reads_one : {old mid new : Parser} {s : SpmdStatement} {line : ℕ} → Keeps old mid → (old.fault ≡ None → mid.fault ≡ None)
    → (old.fault ≡ None → put_back line word.Param (Some mid.rest.now) ≡ Some old.rest.now) → ReadsParameter mid new line s → ReadsOne old new s
reads_one {old} {mid} {new} {s} {line} goes sound_so back r = record {
  goes = whole;
  meets = record {
    finds = λ x rest sound e may ends.
        r.meets.finds x rest (sound_so sound) (ap (λ (z : Rest). after_statement x z) (back sound) ∙ e) (subst (λ (l : List ℕ). MayParameter l x) (sym goes.parameters) may) ends;
    stands = λ sound. ap (λ (z : Rest). after_statement s z) (sym (back (sound_by old new whole.sticks sound))) ∙ r.meets.stands sound;
    may = λ sound. subst (λ (l : List ℕ). MayParameter l s) goes.parameters (r.meets.may sound);
  };
}
  where
    whole : GrowsByParameters old new (parameters_of s)
    whole = kept_then_grown goes r.goes

-- ---- the parameters so far

-- nothing is wrong, and what is left is spelled as the others of these parameters, up to these
-- pieces
pub record LeftRow (s : Parser) (row read : List SpmdStatement) (rest : List Token) : Type 0 where
  pub sound : s.fault ≡ None
  pub others : List SpmdStatement
  pub spelled : behind_all others (Some s.rest.now) ≡ Some rest
  pub may : MayRow s.parameters.items others
  pub names : names_of row ≡ names_of read ++ names_of others

-- What was read so far of parameters: where some of them stood, the others of them are left, unless
-- memory ran out; and where nothing is wrong, those that were read stood.
pub record ParametersSoFar (old s : Parser) (list : List SpmdStatement) : Type 0 where
  pub goes : GrowsByParameters old s (names_of (flat_all list))
  pub finds : (row : List SpmdStatement) (rest : List Token) → old.fault ≡ None → behind_all row (Some old.rest.now) ≡ Some rest → MayRow old.parameters.items row
      → lacks (piece.Word word.Param) rest ≡ true → (s.fault ≡ Some Memory) ⊎ LeftRow s row (flat_all list) rest
  pub stands : s.fault ≡ None → behind_all (flat_all list) (Some old.rest.now) ≡ Some s.rest.now
  pub may : s.fault ≡ None → MayRow old.parameters.items (flat_all list)

pub parameters_begun : (old : Parser) → ParametersSoFar old old []
parameters_begun old = record {
  goes = grows_same;
  finds = λ row rest sound e may ends. inr (record { sound = sound; others = row; spelled = e; may = may; names = refl });
  stands = λ sound. refl;
  may = λ sound. tt;
}

-- where nothing is wrong, the word that is read next comes next
pub next_here : (fault : Option ParseReason) (here : List Token) → nat_eq (code (next_of fault here)) (code (piece.Word word.Param)) ≡ true → fault ≡ None
    → piece_begins (piece.Word word.Param) (Some here) ≡ true
next_here (Some why) here e sound = absurd (let never : Some why ≡ None = sound in cc)
next_here None [] e sound = absurd (let never : false ≡ true = e in cc)
next_here None (t ∷ ts) e sound = e

pub parameters_more : {old s mid new : Parser} {list longer : List SpmdStatement} (item : SpmdStatement) → ParametersSoFar old s list
    → nat_eq (code (next_of s.fault s.rest.now)) (code (piece.Word word.Param)) ≡ true → ReadsOne s mid item → MakesOrLacksMemory mid new (longer ≡ list ++ item ∷ []) → ParametersSoFar old new longer
parameters_more {old} {s} {mid} {new} {list} {longer} item so_far is r makes = record {
  goes = renamed (grows_on so_far.goes last) (λ sound. sym (names_longer list item longer (made_sound makes sound).1));
  finds = λ row rest sound e may ends. by_left row rest ends (so_far.finds row rest sound e may ends);
  stands = stands;
  may = may;
}
  where
    last : GrowsByParameters s new (parameters_of item)
    last = grown_then_kept r.goes (made_goes makes)

    by_found : (row : List SpmdStatement) (rest between : List Token) (x : SpmdStatement) (xs : List SpmdStatement) → behind_all xs (Some between) ≡ Some rest
        → MayRow (s.parameters.items ++ parameters_of x) xs → names_of row ≡ names_of (flat_all list) ++ (parameters_of x ++ names_of xs)
        → Finds new between (parameters_of item ≡ parameters_of x) → (new.fault ≡ Some Memory) ⊎ LeftRow new row (flat_all longer) rest
    by_found row rest between x xs e may names (inl memory) = inl memory
    by_found row rest between x xs e may names (inr (there, same)) =
        inr (record {
          sound = there.sound;
          others = xs;
          spelled = ap (λ (z : List Token). behind_all xs (Some z)) there.left ∙ e;
          may = subst (λ (l : List ℕ). MayRow l xs) (sym (last.parameters there.sound ∙ ap (λ (l : List ℕ). s.parameters.items ++ l) same)) may;
          names =
              names
              ∙ (sym (append_assoc (names_of (flat_all list)) (parameters_of x) (names_of xs))
              ∙ ap (λ (l : List ℕ). l ++ names_of xs) (sym (names_longer list item longer (made_sound makes there.sound).1 ∙ ap (λ (l : List ℕ). names_of (flat_all list) ++ l) same)));
        })

    by_row : (row : List SpmdStatement) (rest : List Token) → lacks (piece.Word word.Param) rest ≡ true → s.fault ≡ None → (others : List SpmdStatement) → behind_all others (Some s.rest.now) ≡ Some rest
        → MayRow s.parameters.items others → names_of row ≡ names_of (flat_all list) ++ names_of others → (new.fault ≡ Some Memory) ⊎ LeftRow new row (flat_all longer) rest
    by_row row rest ends sound [] e may names =
        absurd (lacks_not (piece.Word word.Param) rest (ap (λ (z : Rest). piece_begins (piece.Word word.Param) z) (sym e) ∙ next_here s.fault s.rest.now is sound) ends)
    by_row row rest ends sound (x ∷ xs) e may names =
        let between = left_before (behind_all xs) (all_strict xs) (after_statement x (Some s.rest.now)) rest e in
        by_found row rest between.0 x xs (ap (behind_all xs) (sym between.1) ∙ e) may.1 names (finds_made makes (r.meets.finds x between.0 sound between.1 may.0 refl))

    by_left : (row : List SpmdStatement) (rest : List Token) → lacks (piece.Word word.Param) rest ≡ true → (s.fault ≡ Some Memory) ⊎ LeftRow s row (flat_all list) rest
        → (new.fault ≡ Some Memory) ⊎ LeftRow new row (flat_all longer) rest
    by_left row rest ends (inl memory) = inl (last.sticks Memory memory)
    by_left row rest ends (inr left) = by_row row rest ends left.sound left.others left.spelled left.may left.names

    stands : new.fault ≡ None → behind_all (flat_all longer) (Some old.rest.now) ≡ Some new.rest.now
    stands sound =
        let m = made_sound makes sound in
        let mid_sound = sound_by mid new (made_goes makes).sticks sound in
        ap (λ (xs : List SpmdStatement). behind_all xs (Some old.rest.now)) (flat_longer list item longer m.1 (r.meets.may mid_sound).one)
        ∙ (behind_append (flat_all list) (item ∷ []) (Some old.rest.now)
        ∙ (ap (after_statement item) (so_far.stands (sound_by s mid r.goes.sticks mid_sound)) ∙ (r.meets.stands mid_sound ∙ ap (λ (p : Parser). Some p.rest.now) (sym m.0))))

    may : new.fault ≡ None → MayRow old.parameters.items (flat_all longer)
    may sound =
        let m = made_sound makes sound in
        let mid_sound = sound_by mid new (made_goes makes).sticks sound in
        let s_sound = sound_by s mid r.goes.sticks mid_sound in
        let b = r.meets.may mid_sound in
        subst (MayRow old.parameters.items) (sym (flat_longer list item longer m.1 b.one))
        (row_append old.parameters.items (flat_all list) (item ∷ []) (so_far.may s_sound)
        (subst (λ (l : List ℕ). MayRow l (item ∷ [])) (so_far.goes.parameters s_sound) (b, tt)))

pub parameters_ended : {old s new : Parser} {list : List SpmdStatement} (made : SpmdStatement) → ParametersSoFar old s list
    → nat_eq (code (next_of s.fault s.rest.now)) (code (piece.Word word.Param)) ≡ false → MakesOrLacksMemory s new (flat made ≡ flat_all list) → ReadsParameters old new made
parameters_ended {old} {s} {new} {list} made so_far none makes = record {
  goes = renamed (grown_then_kept so_far.goes (made_goes makes)) names_made;
  meets = record {
    finds = λ x rest sound e may ends.
        let f = flat_row old.parameters.items x (Some old.rest.now) rest may e in
        by_left x rest (so_far.finds (flat x) rest sound f.1 f.0 ends);
    stands = stands;
    may = λ sound. (whole sound).0;
  };
}
  where
    names_made : new.fault ≡ None → names_of (flat_all list) ≡ parameters_of made
    names_made sound = ap names_of (sym (made_sound makes sound).1) ∙ names_flat made

    by_found : (x : SpmdStatement) (rest : List Token) → Finds new rest (names_of (flat_all list) ≡ parameters_of x) → Finds new rest (parameters_of made ≡ parameters_of x)
    by_found x rest (inl memory) = inl memory
    by_found x rest (inr (there, same)) = inr (there, sym (names_made there.sound) ∙ same)

    by_row : (x : SpmdStatement) (rest : List Token) → s.fault ≡ None → (others : List SpmdStatement) → behind_all others (Some s.rest.now) ≡ Some rest
        → MayRow s.parameters.items others → names_of (flat x) ≡ names_of (flat_all list) ++ names_of others → Finds new rest (parameters_of made ≡ parameters_of x)
    by_row x rest sound [] e may names =
        by_found x rest (finds_made makes
        (inr (record { sound = sound; left = same_Some s.rest.now rest e }, sym (names ∙ append-nil (names_of (flat_all list))) ∙ names_flat x)))
    by_row x rest sound (y ∷ ys) e may names =
        let between = left_before (behind_all ys) (all_strict ys) (after_statement y (Some s.rest.now)) rest e in
        absurd (let never : false ≡ true = sym (not_next word.Param s.fault s.rest.now none sound) ∙ parameter_begins y may.0.one s.rest.now between.0 between.1 in cc)

    by_left : (x : SpmdStatement) (rest : List Token) → (s.fault ≡ Some Memory) ⊎ LeftRow s (flat x) (flat_all list) rest → Finds new rest (parameters_of made ≡ parameters_of x)
    by_left x rest (inl memory) = inl ((made_goes makes).sticks Memory memory)
    by_left x rest (inr left) = by_row x rest left.sound left.others left.spelled left.may left.names

    whole : new.fault ≡ None
        → ObeyParameters old.parameters.items made × ((z : Rest) (rest : List Token) → behind_all (flat made) z ≡ Some rest → after_statement made z ≡ Some rest)
    whole sound =
        of_row old.parameters.items made
        (subst (MayRow old.parameters.items) (sym (made_sound makes sound).1) (so_far.may (sound_by s new (made_goes makes).sticks sound)))

    stands : new.fault ≡ None → after_statement made (Some old.rest.now) ≡ Some new.rest.now
    stands sound =
        let m = made_sound makes sound in
        (whole sound).1 (Some old.rest.now) new.rest.now
        (ap (λ (xs : List SpmdStatement). behind_all xs (Some old.rest.now)) m.1
        ∙ (so_far.stands (sound_by s new (made_goes makes).sticks sound) ∙ ap (λ (p : Parser). Some p.rest.now) (sym m.0)))
