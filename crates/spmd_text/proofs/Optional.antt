-- Parts that may be left out, read from their first piece on.
use Rattle.std.proofs.Common.{◌≡◌, Bool, true, false, ◌&&◌, List, Option, Some, None, is_some, refl, ap, sym, ◌∙◌}
use Rattle.std.proofs.lemmas.Option.{same_Some}
use Rattle.spmd_tree.specs.declared.tree.Expression.{Expression}
use Rattle.spmd_tree.specs.declared.tree.GroupForm.{GroupForm}
use Rattle.spmd_text.specs.declared.parser.Parser.{Parser}
use Rattle.spmd_text.specs.declared.piece.Word.TheVariants as word
use Rattle.spmd_text.specs.declared.piece.Piece.{Piece}
use Rattle.spmd_text.specs.declared.piece.Piece.TheVariants as piece
use Rattle.spmd_text.specs.declared.piece.Token.{Token}
use Rattle.spmd_text.specs.parts.Joints.{stops}
use Rattle.spmd_text.specs.Limits.{IsTreeWithin}
use Rattle.spmd_text.specs.Spelling.{after_piece, after_group, after_index, after_optional, after_value, after_wild, piece_begins}
use Rattle.spmd_text.specs.parts.Parts.{SyntaxPart, group_part, index_part, lacks, optional_part, piece_part, then_part, value_part, wild_part}
use Rattle.spmd_text.specs.Rules.{MayValue}
use Rattle.spmd_text.proofs.NoStar.{left_before, value_not_star}
use Rattle.spmd_text.proofs.Following.{among_stops, and_left, and_right, both_true, lacks_not, value_behind}
use Rattle.spmd_text.proofs.Parts.{IsAs}
use Rattle.spmd_text.proofs.Strict.{optional_strict, value_strict}

abbrev pub step_part : Bool → SyntaxPart (Option Expression)
step_part flag = optional_part flag word.Step

-- nothing is left out where the first piece comes next
not_out : (p : Piece) (here rest : List Token) → Some here ≡ Some rest → piece_begins p (Some here) ≡ true → lacks p rest ≡ true → ⊥
not_out p here rest e there ends = lacks_not p rest (ap (λ (xs : List Token). piece_begins p (Some xs)) (sym (same_Some here rest e)) ∙ there) ends

-- a star is a wildcard
pub star_as : (old : Parser) → (old.fault ≡ None → piece_begins piece.Star (Some old.rest.now) ≡ true)
    → IsAs (piece_part piece.Star) (wild_part old.in_parameter) old (tt {0}) None
star_as old there = record { back = back; stands = λ rest e may. e; may = λ may. tt }
  where
    back : (w : Option Expression) (rest : List Token) → old.fault ≡ None → MayValue old.in_parameter w → after_wild w (Some old.rest.now) ≡ Some rest → stops 4 rest ≡ true
        → (x : Unit {0}) × Unit {0} × (after_piece piece.Star (Some old.rest.now) ≡ Some rest) × (true ≡ true) × (Unit {0} → Unit {0})
    back None rest sound may e ends = (tt, tt, e, refl, λ same. tt)
    back (Some v) rest sound may e ends =
        absurd (let never : false ≡ true = sym (value_not_star v old.rest.now rest e) ∙ there sound in cc)

-- ---- an index

pub index_opens : (e : Expression) (here rest : List Token) → after_index (Some e) (Some here) ≡ Some rest → (between : List Token) × (after_piece piece.OpenIndex (Some here) ≡ Some between)
index_opens e here rest f =
    let inner = left_before (after_piece piece.CloseIndex) refl (after_value e (after_piece piece.OpenIndex (Some here))) rest f in
    value_behind piece.OpenIndex e here inner.0 inner.1

pub index_as : (old : Parser) (v : Expression) → (old.fault ≡ None → piece_begins piece.OpenIndex (Some old.rest.now) ≡ true)
    → IsAs (then_part (then_part (piece_part piece.OpenIndex) (value_part old.in_parameter)) (piece_part piece.CloseIndex)) (index_part old.in_parameter) old ((tt {0}, v), tt {0}) (Some v)
index_as old v there = record { back = back; stands = λ rest e may. e; may = λ may. may.0.1 }
  where
    back : (w : Option Expression) (rest : List Token) → old.fault ≡ None → MayValue old.in_parameter w → after_index w (Some old.rest.now) ≡ Some rest → lacks piece.OpenIndex rest ≡ true
        → (x : (Unit {0} × Expression) × Unit {0}) × ((Unit {0} × IsTreeWithin 32 old.in_parameter x.0.1) × Unit {0})
        × (after_piece piece.CloseIndex (after_value x.0.1 (after_piece piece.OpenIndex (Some old.rest.now))) ≡ Some rest) × (true ≡ true) × (((Unit {0} × Unit {0}) × Unit {0}) → true ≡ is_some w)
    back None rest sound may e ends = absurd (not_out piece.OpenIndex old.rest.now rest e (there sound) ends)
    back (Some x) rest sound may e ends = (((tt, x), tt), ((tt, may), tt), e, refl, λ same. refl)

-- ---- a group

pub group_opens : (g : GroupForm) (here rest : List Token) → after_group (Some g) (Some here) ≡ Some rest → (between : List Token) × (after_piece (piece.Word word.Among) (Some here) ≡ Some between)
group_opens g here rest f =
    let first = after_value g.first (after_piece (piece.Word word.Among) (Some here)) in
    let last = after_value g.last (after_piece (piece.Word word.To) first) in
    let third = left_before (after_optional (piece.Word word.Step) g.step) (optional_strict (piece.Word word.Step) g.step) last rest f in
    let second = left_before (after_value g.last) (value_strict g.last) (after_piece (piece.Word word.To) first) third.0 third.1 in
    let one = left_before (after_piece (piece.Word word.To)) refl first second.0 second.1 in
    value_behind (piece.Word word.Among) g.first here one.0 one.1

pub group_as : (old : Parser) (first last : Expression) (step : Option Expression) → (old.fault ≡ None → piece_begins (piece.Word word.Among) (Some old.rest.now) ≡ true)
    → IsAs (then_part (then_part (then_part (then_part (piece_part (piece.Word word.Among)) (value_part old.in_parameter)) (piece_part (piece.Word word.To))) (value_part old.in_parameter)) (step_part old.in_parameter))
    (group_part old.in_parameter) old ((((tt {0}, first), tt {0}), last), step) (Some (record { first = first; last = last; step = step }))
group_as old first last step there = record { back = back; stands = λ rest e may. e; may = λ m. record { first = m.0.0.0.1; last = m.0.1; step = m.1 } }
  where
    back : (w : Option GroupForm) (rest : List Token) → old.fault ≡ None → SyntaxPart.May (group_part old.in_parameter) w → after_group w (Some old.rest.now) ≡ Some rest
        → (stops 4 rest && (lacks (piece.Word word.Among) rest && lacks (piece.Word word.Step) rest)) ≡ true
        → (x : (((Unit {0} × Expression) × Unit {0}) × Expression) × Option Expression)
        × ((((Unit {0} × IsTreeWithin 32 old.in_parameter x.0.0.0.1) × Unit {0}) × IsTreeWithin 32 old.in_parameter x.0.1) × MayValue old.in_parameter x.1)
        × (after_optional (piece.Word word.Step) x.1 (after_value x.0.1 (after_piece (piece.Word word.To) (after_value x.0.0.0.1 (after_piece (piece.Word word.Among) (Some old.rest.now))))) ≡ Some rest)
        × ((stops 4 rest && lacks (piece.Word word.Step) rest) ≡ true) × (((((Unit {0} × Unit {0}) × Unit {0}) × Unit {0}) × Unit {0}) → Unit {0})
    back None rest sound may e ends =
        absurd (not_out (piece.Word word.Among) old.rest.now rest e (there sound)
        (and_left (lacks (piece.Word word.Among) rest) (lacks (piece.Word word.Step) rest) (and_right (stops 4 rest) (lacks (piece.Word word.Among) rest && lacks (piece.Word word.Step) rest) ends)))
    back (Some g) rest sound may e ends = (
      ((((tt, g.first), tt), g.last), g.step),
      ((((tt, may.first), tt), may.last), may.step),
      e,
      both_true (stops 4 rest) (lacks (piece.Word word.Step) rest) (and_left (stops 4 rest) (lacks (piece.Word word.Among) rest && lacks (piece.Word word.Step) rest) ends)
          (and_right (lacks (piece.Word word.Among) rest) (lacks (piece.Word word.Step) rest) (and_right (stops 4 rest) (lacks (piece.Word word.Among) rest && lacks (piece.Word word.Step) rest) ends)),
      λ same. tt,
    )

-- a group comes next, or what comes behind it
pub before_group : (g : Option GroupForm) (here rest : List Token) → after_group g (Some here) ≡ Some rest → stops 4 rest ≡ true → stops 4 here ≡ true
before_group None here rest e ends = ap (stops 4) (same_Some here rest e) ∙ ends
before_group (Some g) here rest e ends = let b = group_opens g here rest e in among_stops here b.0 b.1
