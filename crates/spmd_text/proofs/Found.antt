-- What was read is what the pieces say, and within the limits.
use Rattle.std.proofs.Common.{ℤ, ◌≡◌, ◌⊎◌, inl, inr, ℕ, ◌+◌, ◌-◌, ◌<◌, ◌≤◌, Bool, true, false, ◌&&◌, nat_le, nat_lt, nat_eq, List, [], ◌∷◌, Option, Some, None, refl, ap, sym, subst, ◌∙◌, arith, if◌then◌else◌}
use Rattle.std.proofs.lemmas.Bool.{and_parts, and_from, eq-eqb, leb-true, ltb-true, false≢true}
use Rattle.std.proofs.lemmas.Int.{ints}
use Rattle.std.proofs.lemmas.Bool.Decides.{nat_tests}
use Rattle.spmd_tree.specs.declared.tree.Operator.TheVariants as operator
use Rattle.spmd_tree.specs.declared.tree.Comparison.TheVariants as comparison
use Rattle.spmd_tree.specs.declared.tree.Expression.{Expression}
use Rattle.spmd_tree.specs.declared.tree.Expression.TheVariants as form
use Rattle.spmd_text.specs.declared.expressions.Beginning.{Beginning}
use Rattle.spmd_text.specs.declared.expressions.Beginning.TheVariants as beginning
use Rattle.spmd_text.specs.declared.fault.ParseReason.{ParseReason}
use Rattle.spmd_text.specs.declared.joints.Joint.{Joint}
use Rattle.spmd_text.specs.declared.joints.Joint.TheVariants as joint
use Rattle.spmd_text.specs.declared.joints.Prefix.{Prefix}
use Rattle.spmd_text.specs.declared.joints.Prefix.TheVariants as prefix
use Rattle.spmd_text.specs.declared.joints.Row.{Row}
use Rattle.spmd_text.specs.declared.parser.Parser.{Parser}
use Rattle.spmd_text.specs.declared.piece.Piece.{Piece}
use Rattle.spmd_text.specs.declared.piece.Piece.TheVariants as piece
use Rattle.spmd_text.specs.declared.piece.Word.TheVariants as word
use Rattle.spmd_text.specs.declared.piece.Token.{Token}
use Rattle.spmd_text.specs.Spelling.{is_piece, same_number, Rest, only, after_piece, after_expression, fits_binding, is_condition, binding, same}
use Rattle.spmd_text.specs.Words.{code}
use Rattle.spmd_text.specs.parts.Joints.{joint_of, joint_piece, joint_ahead, binding_of, joins_conditions, goes_on, is_lone, Place, joined_parts, left_least, right_least, may_join, is_below, stops}
use Rattle.spmd_text.specs.Joints.{closeness}
use Rattle.spmd_text.specs.Limits.{nesting, parts_in_row, is_narrow, has_no_rank, IsTreeWithin}
use Rattle.spmd_text.specs.parts.Growing.{is_operand, is_lone_tree, begun, beginning_of, first_close, leaf_of, enclosed, ends_prefix, inside, IsJointRow}
use Rattle.spmd_text.specs.parts.Reading.{next, next_of, behind_next, Goes}
use Rattle.spmd_text.specs.parts.Found.{WasRead, WasBegun, SoFar, IsLonger, PutTogether, PutAround, PutChoice}
use Rattle.spmd_text.proofs.Beginning.{first_row}
use Rattle.spmd_text.proofs.Continuing.{ahead_so}
use Rattle.spmd_text.proofs.Going.{goes_on as goes_further, same_kind, sound_before}
use Rattle.spmd_text.proofs.Growing.{closeness_joined, spelled_joined, nesting_joined, narrow_joined, rankless_joined, scale, scaled, operand_binding, stops_more}
use Rattle.spmd_text.proofs.Pieces.{is_plain, passed, passed_code}

-- ---- a joint

joint_so : (p : Piece) (j : Joint) → joint_of p ≡ Some j → p ≡ joint_piece j
joint_so (piece.Word word.Or) j e = let s : joint.Or ≡ j = cc in ap joint_piece s
joint_so (piece.Word word.And) j e = let s : joint.And ≡ j = cc in ap joint_piece s
joint_so (piece.Word word.Div) j e = let s : joint.Between operator.Quotient ≡ j = cc in ap joint_piece s
joint_so (piece.Word word.Mod) j e = let s : joint.Between operator.Remainder ≡ j = cc in ap joint_piece s
joint_so (piece.Word word.Shl) j e = let s : joint.Between operator.Left ≡ j = cc in ap joint_piece s
joint_so (piece.Word word.Shr) j e = let s : joint.Between operator.Right ≡ j = cc in ap joint_piece s
joint_so (piece.Word word.Xor) j e = let s : joint.Between operator.Exclusive ≡ j = cc in ap joint_piece s
joint_so piece.Same j e = let s : joint.Compared comparison.Same ≡ j = cc in ap joint_piece s
joint_so piece.Other j e = let s : joint.Compared comparison.Other ≡ j = cc in ap joint_piece s
joint_so piece.Below j e = let s : joint.Compared comparison.Below ≡ j = cc in ap joint_piece s
joint_so piece.UpTo j e = let s : joint.Compared comparison.UpTo ≡ j = cc in ap joint_piece s
joint_so piece.Above j e = let s : joint.Compared comparison.Above ≡ j = cc in ap joint_piece s
joint_so piece.From j e = let s : joint.Compared comparison.From ≡ j = cc in ap joint_piece s
joint_so piece.Plus j e = let s : joint.Between operator.Plus ≡ j = cc in ap joint_piece s
joint_so piece.Minus j e = let s : joint.Between operator.Minus ≡ j = cc in ap joint_piece s
joint_so piece.Star j e = let s : joint.Between operator.Times ≡ j = cc in ap joint_piece s
joint_so p j e = absurd cc

joint_plain : (j : Joint) → is_plain (joint_piece j) ≡ true
unfolding is_plain
joint_plain joint.Or = refl
joint_plain joint.And = refl
joint_plain (joint.Compared comparison.Same) = refl
joint_plain (joint.Compared c) = refl
joint_plain (joint.Between operator.Plus) = refl
joint_plain (joint.Between o) = refl

joint_no_end : (j : Joint) → joint_piece j ≡ piece.TextEnd → ⊥
joint_no_end joint.Or e = cc
joint_no_end joint.And e = cc
joint_no_end (joint.Compared comparison.Same) e = cc
joint_no_end (joint.Compared c) e = cc
joint_no_end (joint.Between operator.Plus) e = cc
joint_no_end (joint.Between o) e = cc

-- the joint stands first
joint_passed : (s : Parser) (j : Joint) → joint_of (next s) ≡ Some j → after_piece (joint_piece j) (Some s.rest.now) ≡ Some (behind_next s.rest.now)
joint_passed s j e = passed s.fault s.rest.now (joint_piece j) (joint_plain j) (joint_no_end j) (joint_so (next s) j e)

-- ---- what may stand at it

times_fits : (a : Expression) → 5 ≤ closeness a → (closeness a ≡ 5 → is_lone_tree a ≡ false) → 7 ≤ binding a
times_fits (form.Binary' operator.Plus p a q b) low tree = absurd (omega (arith, low))
times_fits (form.Binary' operator.Minus p a q b) low tree = absurd (omega (arith, low))
times_fits (form.Binary' operator.Times p a q b) low tree = omega arith
times_fits (form.Binary' o p a q b) low tree = absurd (false≢true (sym (tree refl)))
times_fits (form.Compare' c p a q b) low tree = absurd (omega (arith, low))
times_fits (form.Both' p a q b) low tree = absurd (omega (arith, low))
times_fits (form.Either' p a q b) low tree = absurd (omega (arith, low))
times_fits (form.Negation' p a) low tree = absurd (omega (arith, low))
times_fits (form.Choice' p c q a s b) low tree = absurd (omega (arith, low))
times_fits a low tree = omega arith

not_at : (k c : ℕ) → k ≤ c → (c ≡ k → ⊥) → k + 1 ≤ c
not_at k c h never = grind (arith, never)

-- what goes on to a joint may stand left of it
left_fits : (j : Joint) (a : Expression) → binding_of j ≤ closeness a → (closeness a ≡ 3 → binding_of j < 3) → (binding a ≡ 4 → binding_of j < 4)
    → (closeness a ≡ binding_of j → is_lone j ≡ false) → (closeness a ≡ binding_of j → is_lone_tree a ≡ false) → left_least j ≤ binding a
unfolding scale
left_fits joint.Or a low alone choice lone tree = omega arith
left_fits joint.And a low alone choice lone tree = omega (arith, low, scaled a)
left_fits (joint.Compared c) a low alone choice lone tree =
    let more = not_at 3 (closeness a) low (λ e. omega (arith, alone e)) in
    omega (arith, more, scaled a)
left_fits (joint.Between operator.Plus) a low alone choice lone tree =
    let four : 4 ≤ binding a = omega (arith, low, scaled a) in
    not_at 4 (binding a) four (λ e. omega (arith, choice e))
left_fits (joint.Between operator.Minus) a low alone choice lone tree =
    let four : 4 ≤ binding a = omega (arith, low, scaled a) in
    not_at 4 (binding a) four (λ e. omega (arith, choice e))
left_fits (joint.Between operator.Times) a low alone choice lone tree = times_fits a low tree
left_fits (joint.Between o) a low alone choice lone tree =
    let more = not_at 5 (closeness a) low (λ e. false≢true (sym (lone e))) in
    omega (arith, more, scaled a)

right_fits : (j : Joint) (b : Expression) → binding_of j + 1 ≤ closeness b → right_least j ≤ binding b
unfolding scale
right_fits joint.Or b low = omega (arith, low, scaled b)
right_fits joint.And b low = omega (arith, low, scaled b)
right_fits (joint.Compared c) b low = omega (arith, low, scaled b)
right_fits (joint.Between operator.Plus) b low = omega (arith, low, scaled b)
right_fits (joint.Between o) b low = omega (arith, low, scaled b)

same_self : (b : Bool) → same b b ≡ true
same_self true = refl
same_self false = refl

pub fits_from : (a : Expression) (least : ℕ) (condition : Bool) → least ≤ binding a → is_condition a ≡ condition → fits_binding a least condition ≡ true
fits_from a least condition h e =
    let low : nat_le least (binding a) ≡ true = grind (arith, nat_tests) in
    and_from (nat_le least (binding a)) (same condition (is_condition a)) low (ap (same condition) e ∙ same_self condition)

within_both : (depth : ℕ) (in_parameter : Bool) (j : Joint) (p : Place) (a : Expression) (q : Place) (b : Expression)
    → IsTreeWithin depth in_parameter a → IsTreeWithin depth in_parameter b → parts_in_row (joined_parts j p a q b) ≤ 256 → IsTreeWithin depth in_parameter (joined_parts j p a q b)
within_both depth in_parameter j p a q b v w few =
    let short : nat_le (parts_in_row (joined_parts j p a q b)) 256 ≡ true = grind (arith, nat_tests) in
    record {
      nested = omega (arith, v.nested, w.nested, nesting_joined j p a q b);
      narrow = narrow_joined j p a q b ∙ and_from (nat_le (parts_in_row (joined_parts j p a q b)) 256 && is_narrow a) (is_narrow b) (and_from (nat_le (parts_in_row (joined_parts j p a q b)) 256) (is_narrow a) short v.narrow) w.narrow;
      rankless = λ f. rankless_joined j p a q b ∙ and_from (has_no_rank a) (has_no_rank b) (v.rankless f) (w.rankless f);
    }

number_joined : (j : Joint) (p : Place) (a : Expression) (q : Place) (b : Expression) → 4 ≤ binding_of j → is_condition (joined_parts j p a q b) ≡ false
number_joined joint.Or p a q b h = absurd (omega (arith, h))
number_joined joint.And p a q b h = absurd (omega (arith, h))
number_joined (joint.Compared c) p a q b h = absurd (omega (arith, h))
number_joined (joint.Between o) p a q b h = refl

pub no_choice : (j : Joint) (p : Place) (a : Expression) (q : Place) (b : Expression) → binding (joined_parts j p a q b) ≡ 4 → ⊥
no_choice joint.Or p a q b e = omega (arith, e)
no_choice joint.And p a q b e = omega (arith, e)
no_choice (joint.Compared c) p a q b e = omega (arith, e)
no_choice (joint.Between operator.Plus) p a q b e = omega (arith, e)
no_choice (joint.Between o) p a q b e = omega (arith, e)

-- ---- one part more

ahead_goes_on : (o : Option Joint) (row least : ℕ) (j : Joint) → joint_ahead o row least ≡ Some j → goes_on row (binding_of j) ≡ true
ahead_goes_on None row least j e = absurd cc
ahead_goes_on (Some by) row least j e = chosen (nat_le least (binding_of by) && goes_on row (binding_of by)) refl e
  where
    chosen : (b : Bool) → (nat_le least (binding_of by) && goes_on row (binding_of by)) ≡ b → (if b then Some by else None) ≡ Some j → goes_on row (binding_of j) ≡ true
    chosen true test f =
        let same : by ≡ j = cc in
        ap (λ (x : Joint). goes_on row (binding_of x)) (sym same) ∙ (and_parts (nat_le least (binding_of by)) (goes_on row (binding_of by)) test).1
    chosen false test f = absurd cc

goes_on_so : (row close : ℕ) → goes_on row close ≡ true → (close ≤ row) × (row ≡ 3 → close < 3)
goes_on_so row close e = go (nat_eq row 3) refl e
  where
    go : (b : Bool) → nat_eq row 3 ≡ b → (if b then nat_lt close 3 else nat_le close row) ≡ true → (close ≤ row) × (row ≡ 3 → close < 3)
    go true three f = let below = ltb-true close 3 f in (grind (arith, nat_tests), λ _. below)
    go false other f = (leb-true close row f, λ three. absurd (false≢true (sym other ∙ eq-eqb row 3 three)))

below_choice_at : (fault : Option ParseReason) (rest : List Token) (j : Joint) → joint_of (next_of fault rest) ≡ Some j → stops 4 rest ≡ true → binding_of j < 4
below_choice_at (Some why) rest j e stop = absurd cc
below_choice_at None [] j e stop = absurd cc
below_choice_at None (t ∷ ts) j e stop =
    let low : is_below (Some j) 4 ≡ true = ap (λ (o : Option Joint). is_below o 4) (sym e) ∙ stop in
    ltb-true (binding_of j) 4 low

going_on : (row close : ℕ) → 4 ≤ row → close ≤ row → goes_on row close ≡ true
going_on row close h low =
    let other : nat_eq row 3 ≡ false = grind (arith, nat_tests) in
    let on : nat_le close row ≡ true = grind (arith, nat_tests) in
    ap (λ (b : Bool). if b then nat_lt close 3 else nat_le close row) other ∙ on

ended_below : (o : Option Joint) (row least close : ℕ) → row ≡ close → 4 ≤ least → least ≤ close → is_below o (close + 1) ≡ true
    → ((j : Joint) → joint_ahead o row least ≡ Some j → ⊥) → is_below o least ≡ true
ended_below None row least close e h low stop none = refl
ended_below (Some j) row least close e h low stop none = go (nat_lt (binding_of j) least) refl
  where
    go : (b : Bool) → nat_lt (binding_of j) least ≡ b → nat_lt (binding_of j) least ≡ true
    go true f = f
    go false f =
        let below : binding_of j < close + 1 = ltb-true (binding_of j) (close + 1) stop in
        let above : nat_le least (binding_of j) ≡ true = grind (arith, nat_tests) in
        let on : goes_on row (binding_of j) ≡ true = going_on row (binding_of j) (omega (arith, e, h, low)) (omega (arith, e, below)) in
        absurd (none j (ap (λ (b : Bool). if b then Some j else None) (and_from (nat_le least (binding_of j)) (goes_on row (binding_of j)) above on)))

ended_stops : (fault : Option ParseReason) (rest : List Token) (row least close : ℕ) → fault ≡ None → row ≡ close → 4 ≤ least → least ≤ close → stops (close + 1) rest ≡ true
    → ((j : Joint) → joint_ahead (joint_of (next_of fault rest)) row least ≡ Some j → ⊥) → stops least rest ≡ true
ended_stops (Some why) rest row least close sound e h low stop none = absurd cc
ended_stops None [] row least close sound e h low stop none = refl
ended_stops None (t ∷ ts) row least close sound e h low stop none = ended_below (joint_of t.piece) row least close e h low stop none

pub one_more : (here : List Token) (s s2 s3 s4 s5 : Parser) (left right made : Expression) (row longer : Row) (j : Joint) (least depth close : ℕ) (kind : Bool) (found : Option Joint)
    → s5.fault ≡ None
    → found ≡ joint_ahead (joint_of (next s)) row.binding least → found ≡ Some j
    → ((a b : Expression) (p q : Place) → IsJointRow row a → IsLonger row longer j p a q b)
    → kind ≡ joins_conditions j → Goes s s2 → (s2.fault ≡ None → (s2 ≡ s) × (is_condition left ≡ kind))
    → s3.rest.now ≡ behind_next s2.rest.now → Goes s2 s3
    → close ≡ binding_of j → close ≤ 5
    → (s4.fault ≡ None → close + 1 ≤ 6 → WasRead s3.rest.now s3.in_parameter s4 (close + 1) depth right) → Goes s3 s4
    → (s5.fault ≡ None → PutTogether s4 s5 j left right made) → Goes s4 s5
    → SoFar here s left row least depth → SoFar here s5 made longer least depth
one_more here s s2 s3 s4 s5 left right made row longer j least depth close kind found sound5 is some lengthen kind_is goes2 want behind_is goes3 close_is most read goes4 put goes5 so =
    let sound4 = sound_before s4 s5 goes5 sound5 in
    let sound2 = sound_before s2 s3 goes3 (sound_before s3 s4 goes4 sound4) in
    let wanted = want sound2 in
    let was = read sound4 (omega (arith, most)) in
    let together = put sound5 in
    let at = sym is ∙ some in
    let ahead = ahead_so (joint_of (next s)) row.binding least j at in
    let on = goes_on_so row.binding (binding_of j) (ahead_goes_on (joint_of (next s)) row.binding least j at) in
    let long = lengthen left right together.p together.q so.row_so in
    let low : binding_of j ≤ closeness left = omega (arith, on.0, so.row_so.close) in
    let alone : closeness left ≡ 3 → binding_of j < 3 = λ e. on.1 (so.row_so.close ∙ e) in
    let choice : binding left ≡ 4 → binding_of j < 4 = λ e. below_choice s j ahead.0 (so.choice e) in
    let left_fit = fits_from left (left_least j) (joins_conditions j) (left_fits j left low alone choice long.joint_so long.left_so) (wanted.1 ∙ kind_is) in
    let right_fit = fits_from right (right_least j) (joins_conditions j) (right_fits j right (omega (arith, was.close, close_is))) together.kind in
    let joins = and_from (fits_binding left (left_least j) (joins_conditions j)) (fits_binding right (right_least j) (joins_conditions j)) left_fit right_fit in
    let begins : after_piece (joint_piece j) (Some s.rest.now) ≡ Some s3.rest.now =
    joint_passed s j ahead.0 ∙ ap (λ (x : List Token). Some x) (sym (behind_is ∙ ap (λ (u : Parser). behind_next u.rest.now) wanted.0)) in
    let kind3 = same_kind s s3 (goes_further s s2 s3 goes2 goes3) in
    let kind5 = same_kind s s5 (goes_further s s3 s5 (goes_further s s2 s3 goes2 goes3) (goes_further s3 s4 s5 goes4 goes5)) in
    let tree = joined_parts j together.p left together.q right in
    let joined_close = closeness_joined j together.p left together.q right in
    let spelled : after_expression tree (Some here) ≡ Some s4.rest.now =
    spelled_joined j together.p left together.q right (Some here)
    ∙ (ap (λ (x : Rest). only (may_join j left right) (after_expression right (after_piece (joint_piece j) x))) so.spelled
    ∙ (ap (λ (x : Rest). only (may_join j left right) (after_expression right x)) begins
    ∙ (ap (λ (x : Rest). only (may_join j left right) x) was.spelled ∙ ap (λ (b : Bool). only b (Some s4.rest.now)) joins))) in
    put_so_far here s4 s5 tree made longer least depth s.in_parameter together.is together.same kind5 spelled
    (within_both depth s.in_parameter j together.p left together.q right so.within (subst (λ (k : Bool). IsTreeWithin depth k right) kind3 was.within) long.few)
    long.row_so
    (omega (arith, ahead.1, joined_close))
    (λ h. number_joined j together.p left together.q right (omega (arith, h, ahead.1)))
    (λ h. subst (λ (k : ℕ). stops (k + 1) s4.rest.now ≡ true) (close_is ∙ sym joined_close) (was.ends (omega (arith, h, joined_close, close_is))))
    (no_choice j together.p left together.q right)
  where
    below_choice : (s : Parser) (j : Joint) → joint_of (next s) ≡ Some j → stops 4 s.rest.now ≡ true → binding_of j < 4
    below_choice s j e stop = below_choice_at s.fault s.rest.now j e stop

    put_so_far : (here : List Token) (s4 s5 : Parser) (tree made : Expression) (longer : Row) (least depth : ℕ) (in_parameter : Bool) → made ≡ tree → s5 ≡ s4 → s5.in_parameter ≡ in_parameter
        → after_expression tree (Some here) ≡ Some s4.rest.now → IsTreeWithin depth in_parameter tree → IsJointRow longer tree → least ≤ closeness tree → (4 ≤ least → is_condition tree ≡ false)
        → (4 ≤ closeness tree → stops (closeness tree + 1) s4.rest.now ≡ true) → (binding tree ≡ 4 → ⊥) → SoFar here s5 made longer least depth
    put_so_far here s4 s5 tree made longer least depth in_parameter is same kind spelled within row_so close number ends choice =
        subst (λ (x : Expression). SoFar here s5 x longer least depth) (sym is) (record {
          spelled = spelled ∙ ap (λ (u : Parser). Some u.rest.now) (sym same);
          within = subst (λ (k : Bool). IsTreeWithin depth k tree) (sym kind) within;
          row_so = row_so;
          close = close;
          number = number;
          ends = λ h. ap (λ (u : Parser). stops (closeness tree + 1) u.rest.now) same ∙ ends h;
          choice = λ e. absurd (choice e);
        })

-- ---- the end

-- no joint goes on
pub read_to_end : (here : List Token) (s : Parser) (in_parameter : Bool) (left : Expression) (row : Row) (least depth : ℕ) (found : Option Joint)
    → s.fault ≡ None → s.in_parameter ≡ in_parameter → found ≡ joint_ahead (joint_of (next s)) row.binding least → ((j : Joint) → found ≡ Some j → ⊥)
    → SoFar here s left row least depth → WasRead here in_parameter s least depth left
read_to_end here s in_parameter left row least depth found sound kind is none so = record {
  spelled = so.spelled;
  within = subst (λ (k : Bool). IsTreeWithin depth k left) kind so.within;
  close = so.close;
  number = so.number;
  ends = λ h. ended_stops s.fault s.rest.now row.binding least (closeness left) sound so.row_so.close h so.close (so.ends (omega (arith, h, so.close))) (λ j e. none j (is ∙ e));
}

-- ---- a tree of one piece

same_integer : (n : ℤ) → same_number n n ≡ true
same_integer n = grind (arith, ints)

pub record LeafRead (p : Piece) (a : Expression) : Type 0 where
  pub operand : is_operand a ≡ true
  pub begun_so : beginning.Leaf ≡ begun a
  pub number : is_condition a ≡ false
  pub nested : nesting a ≡ 0
  pub narrow : is_narrow a ≡ true
  pub factor : binding a ≡ 8
  pub rankless : (p ≡ piece.Word word.Rank → ⊥) → has_no_rank a ≡ true
  pub no_end : p ≡ piece.TextEnd → ⊥
  pub taken : (t : Token) (ts : List Token) → t.piece ≡ p → after_expression a (Some (t ∷ ts)) ≡ Some ts

only_by : (q : Piece) (p : Piece) (ts : List Token) → q ≡ p → is_piece p p ≡ true → only (is_piece p q) (Some ts) ≡ Some ts
only_by q p ts e self = ap (λ (x : Piece). only (is_piece p x) (Some ts)) e ∙ ap (λ (b : Bool). only b (Some ts)) self

leaf_read : (p : Piece) (a : Expression) → leaf_of p ≡ Some a → LeafRead p a
leaf_read (piece.Number n) a e =
    let same : form.Literal n ≡ a = cc in
    subst (λ (x : Expression). LeafRead (piece.Number n) x) same (record {
      operand = refl;
      begun_so = refl;
      number = refl;
      nested = refl;
      narrow = refl;
      factor = refl;
      rankless = λ _. refl;
      no_end = λ f. cc;
      taken = λ t ts f. only_by t.piece (piece.Number n) ts f (same_integer n);
    })
leaf_read (piece.Name k) a e =
    let same : form.Named k ≡ a = cc in
    subst (λ (x : Expression). LeafRead (piece.Name k) x) same (record {
      operand = refl;
      begun_so = refl;
      number = refl;
      nested = refl;
      narrow = refl;
      factor = refl;
      rankless = λ _. refl;
      no_end = λ f. cc;
      taken = λ t ts f. only_by t.piece (piece.Name k) ts f (eq-eqb k k refl);
    })
leaf_read (piece.Word word.Null) a e =
    let same : form.Null ≡ a = cc in
    subst (λ (x : Expression). LeafRead (piece.Word word.Null) x) same (record {
      operand = refl;
      begun_so = refl;
      number = refl;
      nested = refl;
      narrow = refl;
      factor = refl;
      rankless = λ _. refl;
      no_end = λ f. cc;
      taken = λ t ts f. only_by t.piece (piece.Word word.Null) ts f refl;
    })
leaf_read (piece.Word word.Size) a e =
    let same : form.Size ≡ a = cc in
    subst (λ (x : Expression). LeafRead (piece.Word word.Size) x) same (record {
      operand = refl;
      begun_so = refl;
      number = refl;
      nested = refl;
      narrow = refl;
      factor = refl;
      rankless = λ _. refl;
      no_end = λ f. cc;
      taken = λ t ts f. only_by t.piece (piece.Word word.Size) ts f refl;
    })
leaf_read (piece.Word word.Rank) a e =
    let same : form.Rank ≡ a = cc in
    subst (λ (x : Expression). LeafRead (piece.Word word.Rank) x) same (record {
      operand = refl;
      begun_so = refl;
      number = refl;
      nested = refl;
      narrow = refl;
      factor = refl;
      rankless = λ f. absurd (f refl);
      no_end = λ f. cc;
      taken = λ t ts f. only_by t.piece (piece.Word word.Rank) ts f refl;
    })
leaf_read p a e = absurd cc

leaf_taken : (fault : Option ParseReason) (here : List Token) (p : Piece) (a : Expression) → LeafRead p a → next_of fault here ≡ p → after_expression a (Some here) ≡ Some (behind_next here)
leaf_taken (Some why) here p a l e = absurd (l.no_end (sym e))
leaf_taken None [] p a l e = absurd (l.no_end (sym e))
leaf_taken None (t ∷ ts) p a l e = l.taken t ts e

-- the next piece was taken as a tree
pub leaf_begun : (old new : Parser) (a : Expression) (least depth : ℕ) → leaf_of (next old) ≡ Some a → new.rest.now ≡ behind_next old.rest.now
    → (old.in_parameter ≡ true → next old ≡ piece.Word word.Rank → ⊥) → WasBegun old new beginning.Leaf least depth a
leaf_begun old new a least depth e left rank =
    let l = leaf_read (next old) a e in
    record {
      spelled = leaf_taken old.fault old.rest.now (next old) a l refl ∙ ap (λ (x : List Token). Some x) (sym left);
      within = record { nested = omega (arith, l.nested); narrow = l.narrow; rankless = λ f. l.rankless (rank f) };
      number = λ h. l.number;
      operand = l.operand;
      begun_so = l.begun_so;
      choice = λ f. absurd (omega (arith, f, l.factor));
    }

-- ---- what stands behind a prefix

pub prefix_piece : Prefix → Piece
prefix_piece prefix.Not = piece.Word word.Not
prefix_piece prefix.Minus = piece.Minus
prefix_piece prefix.Parentheses = piece.Open

pub record BeginsPrefix (p : Piece) (least : ℕ) (kind : Prefix) : Type 0 where
  pub piece_so : p ≡ prefix_piece kind
  pub low : kind ≡ prefix.Not → least ≤ 2

begins_prefix : (p : Piece) (least : ℕ) (kind : Prefix) → beginning.Prefix kind ≡ beginning_of p least → BeginsPrefix p least kind
unfolding prefix_piece
begins_prefix piece.Minus least kind e =
    let same : prefix.Minus ≡ kind = cc in
    record { piece_so = ap prefix_piece same; low = λ f. let never : prefix.Minus ≡ prefix.Not = same ∙ f in absurd cc }
begins_prefix piece.Open least kind e =
    let same : prefix.Parentheses ≡ kind = cc in
    record { piece_so = ap prefix_piece same; low = λ f. let never : prefix.Parentheses ≡ prefix.Not = same ∙ f in absurd cc }
begins_prefix (piece.Word word.Not) least kind e = go (nat_le least 2) refl e
  where
    go : (b : Bool) → nat_le least 2 ≡ b → beginning.Prefix kind ≡ (if b then beginning.Prefix prefix.Not else beginning.Leaf) → BeginsPrefix (piece.Word word.Not) least kind
    go true f g = let same : prefix.Not ≡ kind = cc in record { piece_so = ap prefix_piece same; low = λ _. leb-true least 2 f }
    go false f g = absurd cc
begins_prefix (piece.Word word.If) least kind e = go (nat_le least 4) e
  where
    go : (b : Bool) → beginning.Prefix kind ≡ (if b then beginning.Choice else beginning.Leaf) → BeginsPrefix (piece.Word word.If) least kind
    go true g = absurd cc
    go false g = absurd cc
begins_prefix p least kind e = absurd cc

prefix_passed : (s : Parser) (kind : Prefix) → next s ≡ prefix_piece kind → after_piece (prefix_piece kind) (Some s.rest.now) ≡ Some (behind_next s.rest.now)
unfolding prefix_piece is_plain
prefix_passed s prefix.Not e = passed s.fault s.rest.now (piece.Word word.Not) refl (λ f. cc) e
prefix_passed s prefix.Minus e = passed s.fault s.rest.now piece.Minus refl (λ f. cc) e
prefix_passed s prefix.Parentheses e = passed s.fault s.rest.now piece.Open refl (λ f. cc) e

pub record Around (here rest : List Token) (in_parameter : Bool) (kind : Prefix) (least depth : ℕ) (made : Expression) : Type 0 where
  pub spelled : after_expression made (Some here) ≡ Some rest
  pub within : IsTreeWithin depth in_parameter made
  pub number : 4 ≤ least → is_condition made ≡ false
  pub operand : is_operand made ≡ true
  pub begun_so : beginning.Prefix kind ≡ begun made
  pub no_choice_so : binding made ≡ 4 → ⊥

factor_so : (a : Expression) → 6 ≤ closeness a → 8 ≤ binding a
unfolding scale
factor_so a h = omega (arith, h, scaled a)

least_so : (a : Expression) → 2 ≤ closeness a → 2 ≤ binding a
unfolding scale
least_so a h = omega (arith, h, scaled a)

inside_four : (least : ℕ) → 4 ≤ least → 4 ≤ inside prefix.Parentheses least
inside_four least h = let on : nat_le 4 least ≡ true = grind (arith, nat_tests) in omega (arith, ap {B = ℕ} (λ (b : Bool). if b then 4 else 0) on)

around : (kind : Prefix) (here next mid rest : List Token) (in_parameter : Bool) (least depth : ℕ) (inner : Expression) (p : Place)
    → after_piece (prefix_piece kind) (Some here) ≡ Some next → after_expression inner (Some next) ≡ Some mid → IsTreeWithin (depth - 1) in_parameter inner → 0 < depth
    → inside kind least ≤ closeness inner → (4 ≤ inside kind least → is_condition inner ≡ false) → ends_prefix kind inner mid rest → (kind ≡ prefix.Not → least ≤ 2)
    → Around here rest in_parameter kind least depth (enclosed kind p inner)
unfolding prefix_piece
around prefix.Not here next mid rest in_parameter least depth inner p begins spelled w deep close number ends low = record {
  spelled = ap (λ (x : Rest). only (fits_binding inner 2 true) (after_expression inner x)) begins
      ∙ (ap (only (fits_binding inner 2 true)) spelled ∙ (ap (λ (b : Bool). only b (Some mid)) (fits_from inner 2 true (least_so inner close) ends.1) ∙ ap (λ (x : List Token). Some x) ends.0));
  within = record { nested = omega (arith, w.nested, deep); narrow = w.narrow; rankless = w.rankless };
  number = λ h. absurd (omega (arith, h, low refl));
  operand = refl;
  begun_so = refl;
  no_choice_so = λ e. omega (arith, e);
}
around prefix.Minus here next mid rest in_parameter least depth inner p begins spelled w deep close number ends low = record {
  spelled = ap (λ (x : Rest). only (fits_binding inner 8 false) (after_expression inner x)) begins
      ∙ (ap (only (fits_binding inner 8 false)) spelled ∙ (ap (λ (b : Bool). only b (Some mid)) (fits_from inner 8 false (factor_so inner close) ends.1) ∙ ap (λ (x : List Token). Some x) ends.0));
  within = record { nested = omega (arith, w.nested, deep); narrow = w.narrow; rankless = w.rankless };
  number = λ h. refl;
  operand = refl;
  begun_so = refl;
  no_choice_so = λ e. omega (arith, e);
}
around prefix.Parentheses here next mid rest in_parameter least depth inner p begins spelled w deep close number ends low = record {
  spelled = ap (λ (x : Rest). after_piece piece.Close (after_expression inner x)) begins ∙ (ap (after_piece piece.Close) spelled ∙ ends);
  within = record { nested = omega (arith, w.nested, deep); narrow = w.narrow; rankless = w.rankless };
  number = λ h. number (inside_four least h);
  operand = refl;
  begun_so = refl;
  no_choice_so = λ e. omega (arith, e);
}

inside_most : (kind : Prefix) (least : ℕ) → inside kind least ≤ 6
inside_most prefix.Not least = omega arith
inside_most prefix.Minus least = omega arith
inside_most prefix.Parentheses least = go (nat_le 4 least)
  where
    go : (b : Bool) → (if b then 4 else 0) ≤ 6
    go true = omega arith
    go false = omega arith

pub prefix_begun : (old s m new : Parser) (kind : Prefix) (least depth close : ℕ) (inner made : Expression)
    → new.fault ≡ None → beginning.Prefix kind ≡ beginning_of (next old) least → 0 < depth
    → s.rest.now ≡ behind_next old.rest.now → Goes old s → close ≡ inside kind least
    → (m.fault ≡ None → close ≤ 6 → WasRead s.rest.now s.in_parameter m close (depth - 1) inner)
    → (new.fault ≡ None → PutAround m new kind inner made) → Goes m new → WasBegun old new (beginning.Prefix kind) least depth made
prefix_begun old s m new kind least depth close inner made sound begins deep left goes close_is read put goes2 =
    let b = begins_prefix (next old) least kind begins in
    let was = read (sound_before m new goes2 sound) (omega (arith, close_is, inside_most kind least)) in
    let put_so = put sound in
    let same = same_kind old s goes in
    let a = around kind old.rest.now s.rest.now m.rest.now new.rest.now old.in_parameter least depth inner put_so.p
    (prefix_passed old kind b.piece_so ∙ ap (λ (x : List Token). Some x) (sym left)) was.spelled
    (subst (λ (k : Bool). IsTreeWithin (depth - 1) k inner) same was.within) deep (omega (arith, was.close, close_is)) (λ h. was.number (omega (arith, h, close_is))) put_so.ends b.low in
    subst (λ (x : Expression). WasBegun old new (beginning.Prefix kind) least depth x) (sym put_so.is) (record {
      spelled = a.spelled;
      within = a.within;
      number = a.number;
      operand = a.operand;
      begun_so = a.begun_so;
      choice = λ e. absurd (a.no_choice_so e);
    })

-- ---- a choice

begins_choice : (p : Piece) (least : ℕ) → beginning.Choice ≡ beginning_of p least → p ≡ piece.Word word.If
begins_choice (piece.Word word.If) least e = refl
begins_choice (piece.Word word.Not) least e = go (nat_le least 2) e
  where
    go : (b : Bool) → beginning.Choice ≡ (if b then beginning.Prefix prefix.Not else beginning.Leaf) → piece.Word word.Not ≡ piece.Word word.If
    go true g = absurd cc
    go false g = absurd cc
begins_choice p least e = absurd cc

pub number_fits : (a : Expression) → 4 ≤ closeness a → is_condition a ≡ false → fits_binding a 4 false ≡ true
unfolding scale
number_fits a h e = let low : 4 ≤ binding a = omega (arith, h, scaled a) in fits_from a 4 false low e

choice_spelled : (p : Place) (c : Expression) (q : Place) (a : Expression) (s : Place) (b : Expression) (here n1 m1 n2 m2 n3 rest : List Token)
    → after_piece (piece.Word word.If) (Some here) ≡ Some n1 → after_expression c (Some n1) ≡ Some m1 → after_piece (piece.Word word.Then) (Some m1) ≡ Some n2 → after_expression a (Some n2) ≡ Some m2
    → after_piece (piece.Word word.Else) (Some m2) ≡ Some n3 → after_expression b (Some n3) ≡ Some rest → fits_binding c 0 true ≡ true → fits_binding a 4 false ≡ true → fits_binding b 4 false ≡ true
    → after_expression (form.Choice' p c q a s b) (Some here) ≡ Some rest
choice_spelled p c q a s b here n1 m1 n2 m2 n3 rest e1 e2 e3 e4 e5 e6 f1 f2 f3 =
    let fit : Bool = fits_binding c 0 true && fits_binding a 4 false && fits_binding b 4 false in
    ap (λ (x : Rest). only fit (after_expression b (after_piece (piece.Word word.Else) (after_expression a (after_piece (piece.Word word.Then) (after_expression c x)))))) e1
    ∙ (ap (λ (x : Rest). only fit (after_expression b (after_piece (piece.Word word.Else) (after_expression a (after_piece (piece.Word word.Then) x))))) e2
    ∙ (ap (λ (x : Rest). only fit (after_expression b (after_piece (piece.Word word.Else) (after_expression a x)))) e3
    ∙ (ap (λ (x : Rest). only fit (after_expression b (after_piece (piece.Word word.Else) x))) e4
    ∙ (ap (λ (x : Rest). only fit (after_expression b x)) e5
    ∙ (ap (λ (x : Rest). only fit x) e6
    ∙ ap (λ (t : Bool). only t (Some rest)) (and_from (fits_binding c 0 true && fits_binding a 4 false) (fits_binding b 4 false) (and_from (fits_binding c 0 true) (fits_binding a 4 false) f1 f2) f3))))))

pub choice_begun : (old s0 s1 s2 s3 s4 s5 s6 new : Parser) (c a b made : Expression) (least depth : ℕ)
    → new.fault ≡ None → beginning.Choice ≡ beginning_of (next old) least → 0 < depth
    → s0.rest.now ≡ behind_next old.rest.now → Goes old s0
    → (s1.fault ≡ None → 0 ≤ 6 → WasRead s0.rest.now s0.in_parameter s1 0 (depth - 1) c) → Goes s0 s1
    → (s2.fault ≡ None → (s2 ≡ s1) × (is_condition c ≡ true)) → Goes s1 s2
    → (s3.fault ≡ None → (nat_eq (code (next s2)) (code (piece.Word word.Then)) ≡ true) × (s3.rest.now ≡ behind_next s2.rest.now)) → Goes s2 s3
    → (s4.fault ≡ None → 4 ≤ 6 → WasRead s3.rest.now s3.in_parameter s4 4 (depth - 1) a) → Goes s3 s4
    → (s5.fault ≡ None → (nat_eq (code (next s4)) (code (piece.Word word.Else)) ≡ true) × (s5.rest.now ≡ behind_next s4.rest.now)) → Goes s4 s5
    → (s6.fault ≡ None → 4 ≤ 6 → WasRead s5.rest.now s5.in_parameter s6 4 (depth - 1) b) → Goes s5 s6
    → (new.fault ≡ None → PutChoice s6 new c a b made) → Goes s6 new → WasBegun old new beginning.Choice least depth made
unfolding is_plain
choice_begun old s0 s1 s2 s3 s4 s5 s6 new c a b made least depth sound begins deep left0 g0 read1 g1 want2 g2 take3 g3 read4 g4 take5 g5 read6 g6 put g7 =
    let sound6 = sound_before s6 new g7 sound in
    let sound5 = sound_before s5 s6 g6 sound6 in
    let sound4 = sound_before s4 s5 g5 sound5 in
    let sound3 = sound_before s3 s4 g4 sound4 in
    let sound2 = sound_before s2 s3 g3 sound3 in
    let sound1 = sound_before s1 s2 g2 sound2 in
    let r1 = read1 sound1 (omega arith) in
    let r2 = want2 sound2 in
    let r3 = take3 sound3 in
    let r4 = read4 sound4 (omega arith) in
    let r5 = take5 sound5 in
    let r6 = read6 sound6 (omega arith) in
    let r7 = put sound in
    let g03 = goes_further old s0 s3 g0 (goes_further s0 s1 s3 g1 (goes_further s1 s2 s3 g2 g3)) in
    let g05 = goes_further old s3 s5 g03 (goes_further s3 s4 s5 g4 g5) in
    let in0 : IsTreeWithin (depth - 1) old.in_parameter c = subst (λ (k : Bool). IsTreeWithin (depth - 1) k c) (same_kind old s0 g0) r1.within in
    let in3 : IsTreeWithin (depth - 1) old.in_parameter a = subst (λ (k : Bool). IsTreeWithin (depth - 1) k a) (same_kind old s3 g03) r4.within in
    let in5 : IsTreeWithin (depth - 1) old.in_parameter b = subst (λ (k : Bool). IsTreeWithin (depth - 1) k b) (same_kind old s5 g05) r6.within in
    let e1 : after_piece (piece.Word word.If) (Some old.rest.now) ≡ Some s0.rest.now =
    passed old.fault old.rest.now (piece.Word word.If) refl (λ f. cc) (begins_choice (next old) least begins) ∙ ap (λ (x : List Token). Some x) (sym left0) in
    let e3 : after_piece (piece.Word word.Then) (Some s2.rest.now) ≡ Some s3.rest.now =
    passed_code s2.fault s2.rest.now (piece.Word word.Then) refl (λ f. cc) r3.0 ∙ ap (λ (x : List Token). Some x) (sym r3.1) in
    let e5 : after_piece (piece.Word word.Else) (Some s4.rest.now) ≡ Some s5.rest.now =
    passed_code s4.fault s4.rest.now (piece.Word word.Else) refl (λ f. cc) r5.0 ∙ ap (λ (x : List Token). Some x) (sym r5.1) in
    let r2_rest : Some s1.rest.now ≡ Some s2.rest.now = ap (λ (u : Parser). Some u.rest.now) (sym r2.0) in
    let r7_rest : Some s6.rest.now ≡ Some new.rest.now = ap (λ (u : Parser). Some u.rest.now) (sym r7.same) in
    let low : 0 ≤ binding c = omega arith in
    subst (λ (x : Expression). WasBegun old new beginning.Choice least depth x) (sym r7.is) (record {
      spelled = choice_spelled r7.p c r7.q a r7.s b old.rest.now s0.rest.now s2.rest.now s3.rest.now s4.rest.now s5.rest.now new.rest.now
          e1 (r1.spelled ∙ r2_rest) e3 r4.spelled e5 (r6.spelled ∙ r7_rest) (fits_from c 0 true low r2.1) (number_fits a r4.close r7.yes_number) (number_fits b r6.close r7.no_number);
      within = record {
        nested = omega (arith, in0.nested, in3.nested, in5.nested, deep);
        narrow = and_from (is_narrow c && is_narrow a) (is_narrow b) (and_from (is_narrow c) (is_narrow a) in0.narrow in3.narrow) in5.narrow;
        rankless = λ f. and_from (has_no_rank c && has_no_rank a) (has_no_rank b) (and_from (has_no_rank c) (has_no_rank a) (in0.rankless f) (in3.rankless f)) (in5.rankless f);
      };
      number = λ h. refl;
      operand = refl;
      begun_so = refl;
      choice = λ e. ap (λ (u : Parser). stops 4 u.rest.now) r7.same ∙ r6.ends (omega arith);
    })

-- ---- the first part

close_begun : (p : Piece) (least : ℕ) (b : Beginning) → b ≡ beginning_of p least → least ≤ 6 → least ≤ first_close b
close_begun (piece.Word word.Not) least b e h = subst (λ (x : Beginning). least ≤ first_close x) (sym e) (go (nat_le least 2) refl)
  where
    go : (t : Bool) → nat_le least 2 ≡ t → least ≤ first_close (if t then beginning.Prefix prefix.Not else beginning.Leaf)
    go true f = leb-true least 2 f
    go false f = h
close_begun (piece.Word word.If) least b e h = subst (λ (x : Beginning). least ≤ first_close x) (sym e) (go (nat_le least 4) refl)
  where
    go : (t : Bool) → nat_le least 4 ≡ t → least ≤ first_close (if t then beginning.Choice else beginning.Leaf)
    go true f = leb-true least 4 f
    go false f = h
close_begun p least b e h = subst (λ (x : Beginning). least ≤ first_close x) (sym e) h

stops_always : (rest : List Token) → stops 7 rest ≡ true
stops_always [] = refl
stops_always (t ∷ ts) = go (joint_of t.piece)
  where
    at : (j : Joint) → binding_of j ≤ 5
    at joint.Or = omega arith
    at joint.And = omega arith
    at (joint.Compared c) = omega arith
    at (joint.Between operator.Plus) = omega arith
    at (joint.Between o) = omega arith

    less : (n : ℕ) → n ≤ 5 → nat_lt n 7 ≡ true
    less n h = grind (arith, nat_tests)

    go : (o : Option Joint) → is_below o 7 ≡ true
    go None = refl
    go (Some j) = less (binding_of j) (at j)

close_two : (a : Expression) → binding a ≡ 2 → closeness a ≡ 2
unfolding scale
close_two a e = scaled a ∙ ap scale e

close_four : (a : Expression) → binding a ≡ 4 → closeness a ≡ 4
unfolding scale
close_four a e = scaled a ∙ ap scale e

close_eight : (a : Expression) → binding a ≡ 8 → closeness a ≡ 6
unfolding scale
close_eight a e = scaled a ∙ ap scale e

operand_ends : (a : Expression) (rest : List Token) → is_operand a ≡ true → (binding a ≡ 4 → stops 4 rest ≡ true) → 4 ≤ closeness a → stops (closeness a + 1) rest ≡ true
operand_ends a rest operand choice h = go (operand_binding a operand)
  where
    from : (n : ℕ) → closeness a ≡ n → stops (n + 1) rest ≡ true → stops (closeness a + 1) rest ≡ true
    from n e f = ap (λ (k : ℕ). stops (k + 1) rest) e ∙ f

    go : (binding a ≡ 2) ⊎ ((binding a ≡ 4) ⊎ (binding a ≡ 8)) → stops (closeness a + 1) rest ≡ true
    go (inl e) = absurd (omega (arith, h, close_two a e))
    go (inr (inl e)) = from 4 (close_four a e) (stops_more rest 4 5 (omega arith) (choice e))
    go (inr (inr e)) = from 6 (close_eight a e) (stops_always rest)

pub so_far_begun : (old mid : Parser) (b : Beginning) (row : Row) (least depth : ℕ) (a : Expression)
    → WasBegun old mid b least depth a → Goes old mid → b ≡ beginning_of (next old) least → row ≡ record { binding = first_close b; joints = 0; lone = false } → least ≤ 6
    → SoFar old.rest.now mid a row least depth
so_far_begun old mid b row least depth a begun goes is row_is most =
    let row_so = first_row a b row begun.operand begun.begun_so row_is in
    let low = close_begun (next old) least b is most in
    record {
      spelled = begun.spelled;
      within = subst (λ (k : Bool). IsTreeWithin depth k a) (sym (same_kind old mid goes)) begun.within;
      row_so = row_so;
      close = omega (arith, low, row_so.close, ap (λ (r : Row). r.binding) row_is);
      number = begun.number;
      ends = operand_ends a mid.rest.now begun.operand begun.choice;
      choice = begun.choice;
    }
