-- A request or handle is read: a name and an index, where the name may be one.
use Rattle.std.proofs.Common.{◌≡◌, ℕ, ◌+◌, ◌≤◌, arith, ◌&&◌, Bool, true, false, List, Option, Some, None, is_some, slice_get, refl, ap, sym, subst, ◌∙◌, inl, inr}
use Rattle.std.specs.Global.{Vec}
use Rattle.spmd_tree.specs.declared.tree.Expression.{Expression}
use Rattle.spmd_tree.specs.declared.tree.LabelForm.{LabelForm}
use Rattle.spmd_tree.specs.declared.tree.Labels.{Labels}
use Rattle.spmd_tree.specs.declared.tree.Labels.TheVariants.{Last, More'}
use Rattle.spmd_text.specs.declared.fault.ParseReason.{ParseReason}
use Rattle.spmd_text.specs.declared.fault.ParseReason.TheVariants.{Memory}
use Rattle.spmd_text.specs.declared.parser.Parser.{Parser}
use Rattle.spmd_text.specs.declared.piece.Piece.{Piece}
use Rattle.spmd_text.specs.declared.piece.Piece.TheVariants as piece
use Rattle.spmd_text.specs.declared.piece.Token.{Token}
use Rattle.spmd_text.specs.Labels.{has_index, label_fits, name_fits}
use Rattle.spmd_text.specs.Spelling.{after_piece, after_label, after_labels, after_request, piece_begins}
use Rattle.spmd_text.specs.parts.Reading.{Finds, first_noted}
use Rattle.spmd_text.specs.parts.Parts.{Keeps, HasRead, index_part, label_part, labels_part, lacks, name_part, piece_part, request_part, then_part}
use Rattle.spmd_text.specs.Rules.{IfThere, MayLabel, MayLabels, count_labels}
use Rattle.spmd_text.proofs.Parts.{IsAs, found_as, keeps_on, keeps_same, sound_before, still_found}
use Rattle.spmd_text.proofs.NoStar.{left_before}
use Rattle.spmd_text.proofs.Following.{and_left, and_right, comma_unindexed, lacks_not}
use Rattle.spmd_text.specs.parts.Statements.{IsMore, MakesOrLacksMemory}
use Rattle.spmd_text.proofs.Made.{finds_made, made_goes, made_sound}
use Rattle.spmd_text.proofs.Strict.{labels_strict}

has_is : (index : Option Expression) → has_index index ≡ is_some index
has_is None = refl
has_is (Some e) = refl

pub label_read : {old mid new : Parser} (k : ℕ) (index : Option Expression) → HasRead (then_part name_part (index_part old.in_parameter)) old mid (k, index)
    → Keeps mid new → (new.fault ≡ None → (new ≡ mid) × (name_fits (slice_get mid.names.now k) (is_some index) ≡ true))
    → (name_fits (slice_get mid.names.now k) (is_some index) ≡ true → new ≡ mid)
    → HasRead (label_part old.in_parameter old.names.now) old new (record { name = k; index = index })
label_read {old} {mid} {new} k index r goes sound_is fits_is = record {
  goes = keeps_on r.goes goes;
  finds = finds;
  stands = λ sound.
      let same = (sound_is sound).0 in
      r.stands (ap (λ (s : Parser). s.fault) (sym same) ∙ sound) ∙ ap (λ (s : Parser). Some s.rest.now) (sym same);
  may = λ sound. record {
    fits =
        ap (λ (n : List (Vec ℕ)). name_fits (slice_get n k) (has_index index)) (sym names)
        ∙ (ap (name_fits (slice_get mid.names.now k)) (has_is index) ∙ (sound_is sound).1);
    index = (r.may (sound_before goes sound)).1;
  };
}
  where
    names : mid.names.now ≡ old.names.now
    names = r.goes.names

    fits_found : (f : LabelForm) → k ≡ f.name → is_some index ≡ is_some f.index → label_fits old.names.now f ≡ true → name_fits (slice_get mid.names.now k) (is_some index) ≡ true
    fits_found f same_name same_index fits =
        ap (λ (n : List (Vec ℕ)). name_fits (slice_get n k) (is_some index)) names
        ∙ (ap (λ (j : ℕ). name_fits (slice_get old.names.now j) (is_some index)) same_name
        ∙ (ap (name_fits (slice_get old.names.now f.name)) (same_index ∙ sym (has_is f.index)) ∙ fits))

    by_found : (f : LabelForm) (rest : List Token) → label_fits old.names.now f ≡ true → Finds mid rest ((k ≡ f.name) × (is_some index ≡ is_some f.index)) → Finds new rest (Unit {0})
    by_found f rest fits (inl memory) = inl (goes.sticks Memory memory)
    by_found f rest fits (inr (there, same)) = still_found (fits_is (fits_found f same.0 same.1 fits)) (inr (there, tt))

    finds : (f : LabelForm) (rest : List Token) → old.fault ≡ None → after_label f (Some old.rest.now) ≡ Some rest → MayLabel old.in_parameter old.names.now f
        → lacks piece.OpenIndex rest ≡ true → Finds new rest (Unit {0})
    finds f rest sound e may ends = by_found f rest may.fits (r.finds (f.name, f.index) rest sound e (tt, may.index) ends)

-- the same, where a value tells whether there is an index
pub label_read_as : {old mid new : Parser} (k : ℕ) (index : Option Expression) (indexed : Bool) → indexed ≡ is_some index
    → HasRead (then_part name_part (index_part old.in_parameter)) old mid (k, index)
    → Keeps mid new → (new.fault ≡ None → (new ≡ mid) × (name_fits (slice_get mid.names.now k) indexed ≡ true))
    → (name_fits (slice_get mid.names.now k) indexed ≡ true → new ≡ mid)
    → HasRead (label_part old.in_parameter old.names.now) old new (record { name = k; index = index })
label_read_as {old} {mid} {new} k index indexed tells r goes sound_is fits_is =
    label_read k index r goes
    (subst (λ (b : Bool). new.fault ≡ None → (new ≡ mid) × (name_fits (slice_get mid.names.now k) b ≡ true)) tells sound_is)
    (subst (λ (b : Bool). name_fits (slice_get mid.names.now k) b ≡ true → new ≡ mid) tells fits_is)

-- ---- the request of a call that is started

pub request_as : (old : Parser) (started : Bool) (f : LabelForm) → started ≡ true
    → IsAs (then_part (label_part old.in_parameter old.names.now) (piece_part piece.Comma)) (request_part old.in_parameter old.names.now started) old (f, tt {0}) (Some f)
request_as old started f starts = record { back = back; stands = λ rest e may. e; may = λ m. (sym starts, m.0) }
  where
    back : (w : Option LabelForm) (rest : List Token) → old.fault ≡ None → (is_some w ≡ started) × IfThere (MayLabel old.in_parameter old.names.now) w
        → after_request w (Some old.rest.now) ≡ Some rest → true ≡ true
        → (x : LabelForm × Unit {0}) × (MayLabel old.in_parameter old.names.now x.0 × Unit {0})
        × (after_piece piece.Comma (after_label x.0 (Some old.rest.now)) ≡ Some rest) × (true ≡ true) × ((Unit {0} × Unit {0}) → Unit {0})
    back None rest sound may e ends = absurd (let never : false ≡ true = may.0 ∙ starts in cc)
    back (Some g) rest sound may e ends = ((g, tt), (may.1, tt), e, refl, λ same. tt)

-- ---- the requests of a list

no_comma : (p : Piece) (rest : List Token) → piece_begins p (Some rest) ≡ true → lacks p rest ≡ true → ⊥
no_comma p rest e f = lacks_not p rest e f

-- a list of more than one has a comma behind its first request
comma_behind : (f : LabelForm) (others : Labels) (here rest : List Token) → after_labels others (after_piece piece.Comma (after_label f (Some here))) ≡ Some rest
    → (between : List Token) × (behind : List Token) × (after_label f (Some here) ≡ Some between) × (after_piece piece.Comma (Some between) ≡ Some behind)
comma_behind f others here rest e =
    let second = left_before (after_labels others) (labels_strict others) (after_piece piece.Comma (after_label f (Some here))) rest e in
    let first = left_before (after_piece piece.Comma) refl (after_label f (Some here)) second.0 second.1 in
    (first.0, second.0, first.1, sym (ap (after_piece piece.Comma) first.1) ∙ second.1)

-- one request, behind which no comma comes
pub labels_last : {old mid new : Parser} (f : LabelForm) (most : ℕ) → 1 ≤ most → HasRead (label_part old.in_parameter old.names.now) old mid f → new ≡ mid
    → ((rest : List Token) → mid.fault ≡ None → after_piece piece.Comma (Some mid.rest.now) ≡ Some rest → ⊥) → HasRead (labels_part old.in_parameter old.names.now most) old new (Last f)
labels_last {old} {mid} {new} f most some r same never = record {
  goes = keeps_on r.goes (keeps_same same);
  finds = finds;
  stands = λ sound. r.stands (ap (λ (s : Parser). s.fault) (sym same) ∙ sound) ∙ ap (λ (s : Parser). Some s.rest.now) (sym same);
  may = λ sound. (r.may (ap (λ (s : Parser). s.fault) (sym same) ∙ sound), some);
}
  where
    by_found : (between behind rest : List Token) → after_piece piece.Comma (Some between) ≡ Some behind → Finds mid between (Unit {0}) → Finds new rest (Unit {0})
    by_found between behind rest e (inl memory) = inl (ap (λ (s : Parser). s.fault) same ∙ memory)
    by_found between behind rest e (inr (there, none)) =
        absurd (never behind there.sound (ap (λ (xs : List Token). after_piece piece.Comma (Some xs)) there.left ∙ e))

    finds : (w : Labels) (rest : List Token) → old.fault ≡ None → after_labels w (Some old.rest.now) ≡ Some rest
        → MayLabels old.in_parameter old.names.now w × (count_labels w ≤ most) → (lacks piece.OpenIndex rest && lacks piece.Comma rest) ≡ true → Finds new rest (Unit {0})
    finds (Last g) rest sound e may ends = still_found same (r.finds g rest sound e may.0 (and_left (lacks piece.OpenIndex rest) (lacks piece.Comma rest) ends))
    finds (More' g p others) rest sound e may ends =
        let c = comma_behind g others old.rest.now rest e in
        by_found c.0 c.1 rest c.3 (r.finds g c.0 sound c.2 may.0.0 (comma_unindexed c.0 c.1 c.3))

count_positive : (w : Labels) → 1 ≤ count_labels w
count_positive (Last f) = omega arith
count_positive (More' f p others) = omega arith

noted_never : (fault : Option ParseReason) (why : ParseReason) → first_noted fault why ≡ None → ⊥
noted_never None why e = cc
noted_never (Some first) why e = cc

-- more requests than there may be
pub labels_too_long : {old mid new : Parser} (f : LabelForm) (why : ParseReason) (most : ℕ) → most ≡ 0 → HasRead (label_part old.in_parameter old.names.now) old mid f → Keeps mid new
    → (mid.fault ≡ None → piece_begins piece.Comma (Some mid.rest.now) ≡ true) → (before : Option ParseReason) → new.fault ≡ first_noted before why
    → HasRead (labels_part old.in_parameter old.names.now (most + 1)) old new (Last f)
labels_too_long {old} {mid} {new} f why most none r goes there before fault = record {
  goes = keeps_on r.goes goes;
  finds = finds;
  stands = λ sound. absurd (noted_never before why (sym fault ∙ sound));
  may = λ sound. absurd (noted_never before why (sym fault ∙ sound));
}
  where
    by_found : (rest : List Token) → lacks piece.Comma rest ≡ true → Finds mid rest (Unit {0}) → Finds new rest (Unit {0})
    by_found rest ends (inl memory) = inl (goes.sticks Memory memory)
    by_found rest ends (inr (stands, any)) =
        absurd (no_comma piece.Comma rest (ap (λ (xs : List Token). piece_begins piece.Comma (Some xs)) (sym stands.left) ∙ there stands.sound) ends)

    finds : (w : Labels) (rest : List Token) → old.fault ≡ None → after_labels w (Some old.rest.now) ≡ Some rest
        → MayLabels old.in_parameter old.names.now w × (count_labels w ≤ most + 1) → (lacks piece.OpenIndex rest && lacks piece.Comma rest) ≡ true → Finds new rest (Unit {0})
    finds (Last g) rest sound e may ends =
        by_found rest (and_right (lacks piece.OpenIndex rest) (lacks piece.Comma rest) ends)
        (r.finds g rest sound e may.0 (and_left (lacks piece.OpenIndex rest) (lacks piece.Comma rest) ends))
    finds (More' g p others) rest sound e may ends = absurd (omega (arith, may.1, none, count_positive others))

-- a request, a comma, and others
pub labels_more : {old mid last new : Parser} (f : LabelForm) (others made : Labels) (most : ℕ)
    → HasRead (label_part old.in_parameter old.names.now) old mid f → Keeps mid last → (mid.fault ≡ None → piece_begins piece.Comma (Some mid.rest.now) ≡ true)
    → HasRead (then_part (then_part (label_part old.in_parameter old.names.now) (piece_part piece.Comma)) (labels_part old.in_parameter old.names.now most)) old last ((f, tt {0}), others)
    → MakesOrLacksMemory last new (IsMore f others made) → HasRead (labels_part old.in_parameter old.names.now (most + 1)) old new made
labels_more {old} {mid} {last} {new} f others made most r goes there all makes = record {
  goes = keeps_on all.goes (made_goes makes);
  finds = finds;
  stands = λ sound.
      let m = made_sound makes sound in
      ap (λ (w : Labels). after_labels w (Some old.rest.now)) m.1.is
      ∙ (ap (λ (w : Labels). after_labels w (after_piece piece.Comma (after_label f (Some old.rest.now)))) m.1.holds
      ∙ (all.stands (sound_before (made_goes makes) sound) ∙ ap (λ (s : Parser). Some s.rest.now) (sym m.0)));
  may = λ sound.
      let m = made_sound makes sound in
      let n = all.may (sound_before (made_goes makes) sound) in
      subst (λ (w : Labels). MayLabels old.in_parameter old.names.now w × (count_labels w ≤ most + 1)) (sym m.1.is)
      ((n.0.0, subst (MayLabels old.in_parameter old.names.now) (sym m.1.holds) n.1.0), omega (arith, n.1.1, ap count_labels m.1.holds));
}
  where
    by_found : (rest : List Token) → lacks piece.Comma rest ≡ true → Finds mid rest (Unit {0}) → Finds last rest (Unit {0})
    by_found rest ends (inl memory) = inl (goes.sticks Memory memory)
    by_found rest ends (inr (stands, any)) =
        absurd (no_comma piece.Comma rest (ap (λ (xs : List Token). piece_begins piece.Comma (Some xs)) (sym stands.left) ∙ there stands.sound) ends)

    in_last : (w : Labels) (rest : List Token) → old.fault ≡ None → after_labels w (Some old.rest.now) ≡ Some rest
        → MayLabels old.in_parameter old.names.now w × (count_labels w ≤ most + 1) → (lacks piece.OpenIndex rest && lacks piece.Comma rest) ≡ true → Finds last rest (Unit {0})
    in_last (Last g) rest sound e may ends =
        by_found rest (and_right (lacks piece.OpenIndex rest) (lacks piece.Comma rest) ends)
        (r.finds g rest sound e may.0 (and_left (lacks piece.OpenIndex rest) (lacks piece.Comma rest) ends))
    in_last (More' g p more) rest sound e may ends =
        found_as (λ any. tt) (all.finds ((g, tt), more) rest sound e ((may.0.0, tt), (may.0.1, omega (arith, may.1))) ends)

    finds : (w : Labels) (rest : List Token) → old.fault ≡ None → after_labels w (Some old.rest.now) ≡ Some rest
        → MayLabels old.in_parameter old.names.now w × (count_labels w ≤ most + 1) → (lacks piece.OpenIndex rest && lacks piece.Comma rest) ≡ true → Finds new rest (Unit {0})
    finds w rest sound e may ends = finds_made makes (in_last w rest sound e may ends)
