-- A parameter is read from its parts.
use Rattle.std.proofs.Common.{◌≡◌, ℕ, true, false, not, ◌&&◌, List, [], ◌∷◌, Option, Some, None, refl, ap, sym, ◌∙◌, inl, inr}
use Rattle.std.proofs.lemmas.Option.{same_Some}
use Rattle.spmd_tree.specs.declared.tree.Expression.{Expression}
use Rattle.spmd_tree.specs.declared.tree.SpmdStatement.{SpmdStatement}
use Rattle.spmd_tree.specs.declared.tree.SpmdStatement.TheVariants as statement
use Rattle.spmd_text.specs.declared.parser.Parser.{Parser}
use Rattle.spmd_text.specs.declared.piece.Word.TheVariants as word
use Rattle.spmd_text.specs.declared.piece.Piece.TheVariants as piece
use Rattle.spmd_text.specs.declared.piece.Token.{Token}
use Rattle.spmd_text.specs.parts.Joints.{stops}
use Rattle.spmd_text.specs.Limits.{IsTreeWithin}
use Rattle.spmd_text.specs.parts.Reading.{Finds}
use Rattle.spmd_text.specs.Spelling.{Rest, after_piece, after_optional, after_statement, after_value, piece_begins, is_piece}
use Rattle.spmd_text.specs.parts.Parts.{SyntaxPart, HasRead, lacks, name_part, piece_part, then_part, value_part}
use Rattle.spmd_text.specs.Rules.{IfThere}
use Rattle.spmd_text.specs.parts.Statements.{MakesOrLacksMemory, put_back}
use Rattle.spmd_text.specs.Statements.{is_one_of}
use Rattle.spmd_text.specs.parts.Programs.{AddsParameter, Meets, ReadsParameter, is_parameter, otherwise_part, parameter_part}
use Rattle.spmd_text.specs.Programs.{ObeyParameters, parameters_of}
use Rattle.spmd_text.proofs.Following.{and_left, and_right, before_piece, both_true, lacks_not, lacks_tests, line_end_stops}
use Rattle.spmd_text.proofs.Made.{made_goes, made_sound}
use Rattle.spmd_text.proofs.Meeting.{adds_grows, grown_then_kept, kept_then_grown, meets_added, meets_as, meets_kept, meets_of, meets_then, renamed}
use Rattle.spmd_text.proofs.Parts.{IsAs, keeps_on}
use Rattle.spmd_text.proofs.Scopes.{checked}
use Rattle.spmd_text.proofs.Starts.{start_behind, start_same}
use Rattle.spmd_text.proofs.Strict.{after_of, optional_strict}

-- ---- its value

-- what is read of a value while the flag is set is read of it where the flag is set and taken back
pub reads_flagged : {X : Type 0} {part : SyntaxPart X} {old new : Parser} {a : X} → old.in_parameter ≡ false
    → HasRead part (record old { in_parameter = true }) new a → HasRead part old (record new { in_parameter = false }) a
reads_flagged {X} {part} {old} {new} {a} unset r = record {
  goes = record {
    names = r.goes.names;
    in_parameter = sym unset;
    parameters = r.goes.parameters;
    loops = r.goes.loops;
    shorter = r.goes.shorter;
    sticks = r.goes.sticks;
  };
  finds = λ x rest sound e may ends. unflagged rest (part.Same a x) (r.finds x rest sound e may ends);
  stands = r.stands;
  may = r.may;
}
  where
    unflagged : (rest : List Token) (P : Type 0) → Finds new rest P → Finds (record new { in_parameter = false }) rest P
    unflagged rest P (inl memory) = inl memory
    unflagged rest P (inr (there, p)) = inr (record { sound = there.sound; left = there.left }, p)

pub otherwise_as : (old : Parser) (v : Expression) → (old.fault ≡ None → piece_begins piece.Equals (Some old.rest.now) ≡ true)
    → IsAs (then_part (piece_part piece.Equals) (value_part true)) otherwise_part old (tt {0}, v) (Some v)
otherwise_as old v there = record {
  back = back;
  stands = λ rest e may. e;
  may = λ may. may.1;
}
  where
    back : (o : Option Expression) (rest : List Token) → old.fault ≡ None → IfThere (IsTreeWithin 32 true) o
        → after_optional piece.Equals o (Some old.rest.now) ≡ Some rest → (stops 4 rest && lacks piece.Equals rest) ≡ true
        → (x : Unit {0} × Expression) × (Unit {0} × IsTreeWithin 32 true x.1) × (after_value x.1 (after_piece piece.Equals (Some old.rest.now)) ≡ Some rest) × (stops 4 rest ≡ true) × ((Unit {0} × Unit {0}) → Unit {0})
    back None rest sound may e ends =
        absurd (lacks_not piece.Equals rest
        (ap (λ (xs : List Token). piece_begins piece.Equals (Some xs)) (sym (same_Some old.rest.now rest e)) ∙ there sound)
        (and_right (stops 4 rest) (lacks piece.Equals rest) ends))
    back (Some x) rest sound may e ends = ((tt, x), (tt, may), e, and_left (stops 4 rest) (lacks piece.Equals rest) ends, λ same. tt)

-- at the end of a line no joint comes, and no `=`
line_end_value : (here rest : List Token) → after_piece piece.LineEnd (Some here) ≡ Some rest → (stops 4 here && lacks piece.Equals here) ≡ true
line_end_value here rest e =
    both_true (stops 4 here) (lacks piece.Equals here) (line_end_stops here rest e)
    (before_piece (lacks piece.Equals) (λ q. not (is_piece piece.Equals q)) (lacks_tests piece.Equals) piece.LineEnd refl here rest e)

-- ---- its line

-- a name that none of these is
abbrev pub new_name : List ℕ → SyntaxPart ℕ
new_name names = checked name_part (λ k. is_one_of names k ≡ false)

abbrev pub parameter_parts : List ℕ → SyntaxPart ((ℕ × Option Expression) × Unit {0})
parameter_parts names = then_part (then_part (new_name names) otherwise_part) (piece_part piece.LineEnd)

-- a parameter from its name on
abbrev pub behind_param : ℕ → Option Expression → Rest → Rest
behind_param name e rest = after_piece piece.LineEnd (after_optional piece.Equals e (after_piece (piece.Name name) rest))

pub param_none : (name : ℕ) (e : Option Expression) → behind_param name e None ≡ None
param_none name e = after_of piece.LineEnd _ (optional_strict piece.Equals e)

parameter_as : (old : Parser) (names : List ℕ) (line name : ℕ) (e : Option Expression)
    → IsAs (parameter_parts names) (parameter_part names line) old ((name, e), tt {0}) (statement.Parameter line name e)
parameter_as old names line name e = record {
  back = λ w rest sound may f ends. back w rest may.one may.obeys f;
  stands = λ rest f may. ap (behind_param name e) (start_same line word.Param old.rest.now) ∙ f;
  may = λ m. record { one = refl; obeys = (m.0.0.1, m.0.1) };
}
  where
    back : (w : SpmdStatement) (rest : List Token) → is_parameter w ≡ true → ObeyParameters names w → after_statement w (put_back line word.Param (Some old.rest.now)) ≡ Some rest
        → (x : (ℕ × Option Expression) × Unit {0}) × SyntaxPart.May (parameter_parts names) x × (behind_param x.0.0 x.0.1 (Some old.rest.now) ≡ Some rest) × (true ≡ true)
        × (SyntaxPart.Same (parameter_parts names) ((name, e), tt) x → name ∷ [] ≡ parameters_of w)
    back (statement.Parameter l k v) rest one obeys f = (
      ((k, v), tt),
      (((tt, obeys.0), obeys.1), tt),
      start_behind (behind_param k v) (param_none k v) l line word.Param word.Param old.rest.now rest f,
      refl,
      λ same. ap (λ (j : ℕ). j ∷ []) same.0.0,
    )
    back w rest one obeys f = absurd (let never : false ≡ true = one in cc)

-- A parameter behind its word: its name, which is added, its value, and the end of its line.
pub parameter_read : {old named kept valued new : Parser} (line name : ℕ) (e : Option Expression) → HasRead (new_name old.parameters.items) old named name → AddsParameter named kept name
    → HasRead otherwise_part kept valued e → HasRead (piece_part piece.LineEnd) valued new (tt {0}) → ReadsParameter old new line (statement.Parameter line name e)
parameter_read {old} {named} {kept} {valued} {new} line name e first adds second third = record {
  goes = kept_then_grown first.goes (grown_then_kept (adds_grows named kept name adds) (keeps_on second.goes third.goes));
  meets = meets_as (parameter_as old old.parameters.items line name e) whole;
}
  where
    begun : Meets (new_name old.parameters.items) old kept name
    begun = meets_added named kept name (meets_of first) adds

    value : Meets (then_part (new_name old.parameters.items) otherwise_part) old valued (name, e)
    value = meets_then (optional_strict piece.Equals) follows begun second.goes.sticks (meets_of second)
      where
        follows : (o : Option Expression) (here rest : List Token) → IfThere (IsTreeWithin 32 true) o → after_optional piece.Equals o (Some here) ≡ Some rest → (stops 4 rest && lacks piece.Equals rest) ≡ true → true ≡ true
        follows o here rest may f ends = refl

    whole : Meets (parameter_parts old.parameters.items) old new ((name, e), tt {0})
    whole = meets_then (λ y. refl) (λ y here rest may f ends. line_end_value here rest f) value third.goes.sticks (meets_of third)

-- The same, where it is kept.
pub parameter_kept : {old mid new : Parser} {line : ℕ} {a b : SpmdStatement} → ReadsParameter old mid line a → MakesOrLacksMemory mid new (b ≡ a) → ReadsParameter old new line b
parameter_kept {old} {mid} {new} {line} {a} {b} r makes = record {
  goes = renamed (grown_then_kept r.goes (made_goes makes)) (λ sound. ap parameters_of (sym (made_sound makes sound).1));
  meets = meets_kept r.meets makes;
}
