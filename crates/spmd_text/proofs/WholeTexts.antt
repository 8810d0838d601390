-- A whole text is read: its heading, its parameters, its statements, and its end.
use Rattle.std.proofs.Common.{◌≡◌, ℕ, Bool, true, false, not, ◌&&◌, ◌||◌, List, [], ◌∷◌, ◌++◌, Some, None, refl, ap, sym, subst, ◌∙◌, inr}
use Rattle.std.specs.Global.{Vec}
use Rattle.spmd_tree.specs.declared.tree.SpmdStatement.{SpmdStatement}
use Rattle.spmd_tree.specs.declared.tree.SpmdStatement.TheVariants as statement
use Rattle.spmd_text.specs.declared.parser.Parser.{Parser}
use Rattle.spmd_text.specs.declared.piece.Word.{Word}
use Rattle.spmd_text.specs.declared.piece.Word.TheVariants as word
use Rattle.spmd_text.specs.declared.piece.Piece.{Piece}
use Rattle.spmd_text.specs.declared.piece.Piece.TheVariants as piece
use Rattle.spmd_text.specs.declared.piece.Token.{Token}
use Rattle.spmd_text.specs.declared.reading.SpmdPolicy.{SpmdPolicy}
use Rattle.spmd_text.specs.parts.Reading.{Finds, Goes, StandsBefore}
use Rattle.spmd_text.specs.Spelling.{Rest, after_statement, piece_begins, is_branch, only}
use Rattle.spmd_text.specs.parts.Parts.{HasRead, lacks}
use Rattle.spmd_text.specs.parts.Statements.{IsInTurn, MakesOrLacksMemory, MayAll, behind_all, ends_statements, first_word, flat, heading_part, is_one, scope_of, statements_part}
use Rattle.spmd_text.specs.Statements.{Obeys, Scope}
use Rattle.spmd_text.specs.parts.Programs.{Meets, ReadsParameters, is_all_read, text_part}
use Rattle.spmd_text.specs.Programs.{ObeyParameters, ObeysText, behind_parameters, parameters_of}
use Rattle.spmd_text.proofs.BlockForms.{not_so}
use Rattle.spmd_text.proofs.BlockWords.{one_begins, or_right, same_begin, statement_strict}
use Rattle.spmd_text.proofs.Flat.{all_strict, flat_of}
use Rattle.spmd_text.proofs.Following.{and_right, both_true}
use Rattle.spmd_text.proofs.Going.{found_then}
use Rattle.spmd_text.proofs.Made.{finds_made, made_goes, made_sound}
use Rattle.spmd_text.proofs.Meeting.{sound_by}
use Rattle.spmd_text.proofs.NoStar.{left_before, only_left}
use Rattle.spmd_text.proofs.ParameterRows.{parameters_plain}
use Rattle.spmd_text.proofs.Parts.{still_found}
use Rattle.spmd_text.proofs.Pieces.{piece_is}
use Rattle.spmd_text.proofs.Starts.{no_call}

-- ---- what ends parts of a text

-- no statement but a parameter begins with the word of one
param_word : (s : SpmdStatement) → is_one s ≡ true → first_word s ≡ word.Param → ⊥
param_word statement.Nothing one e = let never : false ≡ true = one in cc
param_word (statement.Sequence' p a q b) one e = let never : false ≡ true = one in cc
param_word (statement.Parameter line name v) one e = let never : false ≡ true = one in cc
param_word (statement.Assign line name v) one e = let never : word.Let ≡ word.Param = e in cc
param_word (statement.When' line true c p a q b) one e = let never : word.Elif ≡ word.Param = e in cc
param_word (statement.When' line false c p a q b) one e = let never : word.If ≡ word.Param = e in cc
param_word (statement.Otherwise' p a) one e = let never : word.Else ≡ word.Param = e in cc
param_word (statement.Repeat' line name first last step p a) one e = let never : word.For ≡ word.Param = e in cc
param_word (statement.Call line c) one e = no_call c word.Param refl e
param_word (statement.WaitAll line requests) one e = let never : word.Waitall ≡ word.Param = e in cc
param_word (statement.Unreached line) one e = let never : word.Error ≡ word.Param = e in cc

all_read_begins : (rest : List Token) → is_all_read rest ≡ true → piece_begins piece.TextEnd (Some rest) ≡ true
all_read_begins [] e = absurd (let never : false ≡ true = e in cc)
all_read_begins (t ∷ []) e = e
all_read_begins (t ∷ u ∷ us) e = absurd (let never : false ≡ true = e in cc)

all_read_ends : (rest : List Token) → is_all_read rest ≡ true → ends_statements rest ≡ true
all_read_ends rest e =
    or_right (piece_begins (piece.Word word.End) (Some rest) || piece_begins (piece.Word word.Else) (Some rest)) (piece_begins (piece.Word word.Elif) (Some rest) || piece_begins piece.TextEnd (Some rest))
    (or_right (piece_begins (piece.Word word.Elif) (Some rest)) (piece_begins piece.TextEnd (Some rest)) (all_read_begins rest e))

end_is_no_word : (w : Word) (here : List Token) → piece_begins piece.TextEnd (Some here) ≡ true → piece_begins (piece.Word w) (Some here) ≡ true → ⊥
end_is_no_word w [] e f = let never : false ≡ true = e in cc
end_is_no_word w (t ∷ ts) e f =
    let never : piece.TextEnd ≡ piece.Word w = sym (piece_is piece.TextEnd t.piece e) ∙ piece_is (piece.Word w) t.piece f in cc

lacks_by : (p : Piece) (here : List Token) → (piece_begins p (Some here) ≡ true → ⊥) → lacks p here ≡ true
lacks_by p here never = by_begins (piece_begins p (Some here)) refl
  where
    by_begins : (b : Bool) → piece_begins p (Some here) ≡ b → lacks p here ≡ true
    by_begins true e = absurd (never e)
    by_begins false e = ap not e

-- parameters end before the statements
before_statements : (scope : Scope) (b : SpmdStatement) (here rest : List Token) → is_branch b ≡ false → Obeys scope 32 b → after_statement b (Some here) ≡ Some rest
    → is_all_read rest ≡ true → lacks (piece.Word word.Param) here ≡ true
before_statements scope b here rest plain obeys e ends =
    let f = flat_of scope 32 b (Some here) rest plain obeys e in
    lacks_by (piece.Word word.Param) here (by_row (flat b) f.0 f.1)
  where
    by_row : (row : List SpmdStatement) → MayAll scope 32 row → behind_all row (Some here) ≡ Some rest → piece_begins (piece.Word word.Param) (Some here) ≡ true → ⊥
    by_row [] may f starts = end_is_no_word word.Param here (ap (λ (z : Rest). piece_begins piece.TextEnd z) f ∙ all_read_begins rest ends) starts
    by_row (x ∷ xs) may f starts =
        let between = left_before (behind_all xs) (all_strict xs) (after_statement x (Some here)) rest f in
        param_word x may.0.one (same_begin (first_word x) word.Param here (one_begins x may.0.one here between.0 between.1) starts)

-- ---- the whole text

-- what a text is made of
pub record IsWhole (names : List (Vec ℕ)) (s : SpmdStatement) (z : Rest) (rest : List Token) : Type 0 where
  pub heads : SpmdStatement
  pub all : SpmdStatement
  pub obey : ObeyParameters [] heads
  pub obeys : Obeys (behind_parameters names heads) 32 all
  pub plain : is_branch all ≡ false
  pub before : List Token
  pub between : List Token
  pub heading : z ≡ Some before
  pub first : after_statement heads (Some before) ≡ Some between
  pub second : after_statement all (Some between) ≡ Some rest

is_whole : (names : List (Vec ℕ)) (s : SpmdStatement) (z : Rest) (rest : List Token) → ObeysText names s → after_statement s z ≡ Some rest → IsWhole names s z rest
is_whole names (statement.Sequence' p a q b) z rest obeys e =
    let o = only_left (not (is_branch a) && not (is_branch b)) (after_statement b (after_statement a z)) rest e in
    let two = left_before (after_statement b) (statement_strict b) (after_statement a z) rest o.1 in
    let one = left_before (after_statement a) (statement_strict a) z two.0 two.1 in
    record {
      heads = a;
      all = b;
      obey = obeys.0;
      obeys = obeys.1;
      plain = not_so (is_branch b) (and_right (not (is_branch a)) (not (is_branch b)) o.0);
      before = one.0;
      between = two.0;
      heading = one.1;
      first = ap (after_statement a) (sym one.1) ∙ two.1;
      second = ap (after_statement b) (sym two.1) ∙ o.1;
    }
is_whole names s z rest obeys e = absurd obeys

pub text_read : {old headed held stated ended new : Parser} {p : SpmdPolicy} {heads all made : SpmdStatement}
    → old.in_parameter ≡ false → old.parameters.items ≡ [] → old.loops.items ≡ []
    → HasRead heading_part old headed p → ReadsParameters headed held heads → HasRead (statements_part (scope_of held) 32) held stated all
    → Goes stated ended → (ended.fault ≡ None → (ended ≡ stated) × (is_all_read stated.rest.now ≡ true)) → (is_all_read stated.rest.now ≡ true → ended ≡ stated)
    → MakesOrLacksMemory ended new (IsInTurn heads all made) → Meets (text_part old.names.now) old new (p, made)
text_read {old} {headed} {held} {stated} {ended} {new} {p} {heads} {all} {made} unset unnamed outside one two three goes sound_is fits makes = record {
  finds = λ x rest sound e may ends. finds x.0 x.1 rest sound e may ends;
  stands = λ sound. whole_stands sound;
  may = λ sound. whole_may sound;
}
  where
    scope_so : held.fault ≡ None → scope_of held ≡ behind_parameters old.names.now heads
    scope_so sound =
        ap (λ (b : Bool). record { in_parameter = b; names = held.names.now; parameters = held.parameters.items; loops = held.loops.items }) (two.goes.in_parameter ∙ (one.goes.in_parameter ∙ unset))
        ∙ (ap (λ (n : List (Vec ℕ)). record { in_parameter = false; names = n; parameters = held.parameters.items; loops = held.loops.items }) (two.goes.names_same ∙ one.goes.names)
        ∙ (ap (λ (n : List ℕ). record { in_parameter = false; names = old.names.now; parameters = n; loops = held.loops.items })
        (two.goes.parameters sound ∙ ap (λ (l : List ℕ). l ++ parameters_of heads) (one.goes.parameters ∙ unnamed))
        ∙ ap (λ (n : List ℕ). record { in_parameter = false; names = old.names.now; parameters = parameters_of heads; loops = n }) (two.goes.loops ∙ (one.goes.loops ∙ outside))))

    scope_alike : (a : SpmdStatement) → parameters_of heads ≡ parameters_of a → behind_parameters old.names.now heads ≡ behind_parameters old.names.now a
    scope_alike a same = ap (λ (n : List ℕ). record { in_parameter = false; names = old.names.now; parameters = n; loops = [] }) same

    at_end : (rest : List Token) → is_all_read rest ≡ true → StandsBefore stated rest → Finds new rest (Unit {0})
    at_end rest ends there =
        finds_made makes (still_found (fits (ap is_all_read there.left ∙ ends)) (inr (there, tt)))

    behind_heads : (names : List (Vec ℕ)) (s : SpmdStatement) (z : Rest) (rest : List Token) → names ≡ old.names.now → (w : IsWhole names s z rest) → is_all_read rest ≡ true
        → StandsBefore held w.between → parameters_of heads ≡ parameters_of w.heads → Finds new rest (Unit {0})
    behind_heads names s z rest named w ends there same =
        found_then stated new rest rest (Unit {0}) (Unit {0})
        (three.finds w.all rest there.sound (ap (λ (ts : List Token). after_statement w.all (Some ts)) there.left ∙ w.second)
        (record {
          plain = w.plain;
          obeys = subst (λ (k : Scope). Obeys k 32 w.all) (sym (scope_so there.sound ∙ scope_alike w.heads same)) (subst (λ (n : List (Vec ℕ)). Obeys (behind_parameters n w.heads) 32 w.all) named w.obeys);
        })
        (all_read_ends rest ends))
        sticks (λ stands any. at_end rest ends stands)
      where
        sticks : (why : _) → stated.fault ≡ Some why → new.fault ≡ Some why
        sticks why e = (made_goes makes).sticks why (goes.sticks why e)

    finds : (q : SpmdPolicy) (s : SpmdStatement) (rest : List Token) → old.fault ≡ None → after_statement s (heading_part.behind q (Some old.rest.now)) ≡ Some rest → ObeysText old.names.now s
        → is_all_read rest ≡ true → Finds new rest (Unit {0})
    finds q s rest sound e may ends = by_whole (is_whole old.names.now s (heading_part.behind q (Some old.rest.now)) rest may e)
      where
        by_whole : IsWhole old.names.now s (heading_part.behind q (Some old.rest.now)) rest → Finds new rest (Unit {0})
        by_whole w =
            found_then headed new w.before rest (Unit {0}) (Unit {0}) (one.finds q w.before sound w.heading tt refl)
            (λ why f. (made_goes makes).sticks why (goes.sticks why (three.goes.sticks why (two.goes.sticks why f))))
            (λ there any.
            found_then held new w.between rest (parameters_of heads ≡ parameters_of w.heads) (Unit {0})
            (two.meets.finds w.heads w.between there.sound (ap (λ (ts : List Token). after_statement w.heads (Some ts)) there.left ∙ w.first)
            (subst (λ (l : List ℕ). ObeyParameters l w.heads) (sym (one.goes.parameters ∙ unnamed)) w.obey)
            (before_statements (behind_parameters old.names.now w.heads) w.all w.between rest w.plain w.obeys w.second ends))
            (λ why f. (made_goes makes).sticks why (goes.sticks why (three.goes.sticks why f)))
            (λ stands same. behind_heads old.names.now s (heading_part.behind q (Some old.rest.now)) rest refl w ends stands same))

    ended_sound : new.fault ≡ None → ended.fault ≡ None
    ended_sound sound = sound_by ended new (made_goes makes).sticks sound

    stated_sound : new.fault ≡ None → stated.fault ≡ None
    stated_sound sound = sound_by stated ended goes.sticks (ended_sound sound)

    held_sound : new.fault ≡ None → held.fault ≡ None
    held_sound sound = sound_by held stated three.goes.sticks (stated_sound sound)

    headed_sound : new.fault ≡ None → headed.fault ≡ None
    headed_sound sound = sound_by headed held two.goes.sticks (held_sound sound)

    obey : new.fault ≡ None → ObeyParameters [] heads
    obey sound = subst (λ (l : List ℕ). ObeyParameters l heads) (one.goes.parameters ∙ unnamed) (two.meets.may (held_sound sound))

    whole_may : new.fault ≡ None → ObeysText old.names.now made
    whole_may sound =
        let m = (made_sound makes sound).1 in
        subst (ObeysText old.names.now) (sym m.is) (
          subst (ObeyParameters []) (sym m.first_holds) (obey sound),
          subst (λ (v : SpmdStatement). Obeys (behind_parameters old.names.now v) 32 m.second.value) (sym m.first_holds)
              (subst (Obeys (behind_parameters old.names.now heads) 32) (sym m.second_holds)
              (subst (λ (k : Scope). Obeys k 32 all) (scope_so (held_sound sound)) (three.may (stated_sound sound)).obeys)),
        )

    whole_stands : new.fault ≡ None → after_statement made (heading_part.behind p (Some old.rest.now)) ≡ Some new.rest.now
    whole_stands sound =
        let m = made_sound makes sound in
        let begun : Rest = heading_part.behind p (Some old.rest.now) in
        let same = (sound_is (ended_sound sound)).0 in
        let plain = both_true (not (is_branch heads)) (not (is_branch all)) (ap not (parameters_plain [] heads (obey sound))) (ap not (three.may (stated_sound sound)).plain) in
        ap (λ (v : SpmdStatement). after_statement v begun) m.1.is
        ∙ (ap (λ (v : SpmdStatement). only (not (is_branch v) && not (is_branch m.1.second.value)) (after_statement m.1.second.value (after_statement v begun))) m.1.first_holds
        ∙ (ap (λ (v : SpmdStatement). only (not (is_branch heads) && not (is_branch v)) (after_statement v (after_statement heads begun))) m.1.second_holds
        ∙ (ap (λ (k : Bool). only k (after_statement all (after_statement heads begun))) plain
        ∙ (ap (λ (y : Rest). after_statement all (after_statement heads y)) (one.stands (headed_sound sound))
        ∙ (ap (after_statement all) (two.meets.stands (held_sound sound))
        ∙ (three.stands (stated_sound sound)
        ∙ (ap (λ (s : Parser). Some s.rest.now) (sym same) ∙ ap (λ (s : Parser). Some s.rest.now) (sym m.0))))))))
