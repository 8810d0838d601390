-- The reader goes on with a tree: with its first part, with what a joint joins to it, and with what
-- stands within it.
use Rattle.std.proofs.Common.{◌≡◌, ◌⊎◌, inl, inr, ℕ, ◌+◌, ◌-◌, ◌≤◌, Bool, true, false, ◌&&◌, nat_le, List, [], ◌∷◌, Option, Some, None, Result, Ok, Err, refl, ap, sym, subst, ◌∙◌, arith, if◌then◌else◌}
use Rattle.std.proofs.lemmas.Bool.{and_parts, and_from, false≢true}
use Rattle.std.proofs.lemmas.Bool.Decides.{nat_tests}
use Rattle.spmd_tree.specs.declared.tree.Expression.{Expression}
use Rattle.spmd_tree.specs.declared.tree.Expression.TheVariants as form
use Rattle.spmd_text.specs.declared.expressions.Beginning.TheVariants as beginning
use Rattle.spmd_text.specs.declared.fault.ParseReason.{ParseReason}
use Rattle.spmd_text.specs.declared.fault.ParseReason.TheVariants.{Memory}
use Rattle.spmd_text.specs.declared.joints.Joint.{Joint}
use Rattle.spmd_text.specs.declared.joints.Prefix.{Prefix}
use Rattle.spmd_text.specs.declared.joints.Prefix.TheVariants as prefix
use Rattle.spmd_text.specs.declared.joints.Row.{Row}
use Rattle.spmd_text.specs.declared.parser.Parser.{Parser}
use Rattle.spmd_text.specs.declared.piece.Piece.{Piece}
use Rattle.spmd_text.specs.declared.piece.Piece.TheVariants as piece
use Rattle.spmd_text.specs.declared.piece.Word.TheVariants as word
use Rattle.spmd_text.specs.declared.piece.Token.{Token}
use Rattle.spmd_text.specs.Spelling.{Rest, after_piece, after_expression, fits_binding, is_condition}
use Rattle.spmd_text.specs.parts.Joints.{joint_of, joint_piece, joint_ahead, binding_of, joins_conditions, goes_on, Place, joined_parts, may_join, is_below, stops}
use Rattle.spmd_text.specs.Joints.{closeness}
use Rattle.spmd_text.specs.Limits.{parts_in_row, is_narrow, has_no_rank, IsTreeWithin}
use Rattle.spmd_text.specs.parts.Growing.{is_operand, opening_piece, begun, enclosed, ends_prefix, inside, IsJointRow, Joining, whole, Becomes, done, more, Growing, MayBegin}
use Rattle.spmd_text.specs.parts.Reading.{next, next_of, behind_next, Ahead, Alike, Finds, Goes, MayStandAmongJoints, StandsBefore}
use Rattle.spmd_text.proofs.Alike.{alike_condition}
use Rattle.spmd_text.proofs.Going.{goes_on as goes_further, same_kind, found_then}
use Rattle.spmd_text.proofs.Growing.{from_tree, from_piece, some_before, some_before_piece, only_so, fits_so, joint_back, least_close, factor_close, number_close, joins_so, right_of_joint, right_number, row_goes_on, grown_close, grown_stops, closeness_joined, stops_before}
use Rattle.spmd_text.proofs.Pieces.{taken}

-- ---- one step

-- the piece was taken
pub stepped : (s t : Parser) (p : Piece) (rest : List Token) → t.rest.now ≡ behind_next s.rest.now → t.fault ≡ s.fault → s.fault ≡ None → after_piece p (Some s.rest.now) ≡ Some rest → StandsBefore t rest
stepped s t p rest left fault sound is =
    record { sound = fault ∙ sound; left = left ∙ ap behind_next (taken p s.rest.now rest is).here_is }

pub ahead_at : (s t : Parser) (depth : ℕ) (e : Expression) (here rest : List Token) → Goes s t → StandsBefore t here → after_expression e (Some here) ≡ Some rest → IsTreeWithin depth s.in_parameter e → Ahead t depth e rest
ahead_at s t depth e here rest goes stands is within = record {
  sound = stands.sound;
  spelled = ap (λ (x : List Token). after_expression e (Some x)) stands.left ∙ is;
  within = subst (λ (k : Bool). IsTreeWithin depth k e) (sym (same_kind s t goes)) within;
}

-- ---- a joint

pub ahead_so : (o : Option Joint) (row least : ℕ) (j : Joint) → joint_ahead o row least ≡ Some j → (o ≡ Some j) × (least ≤ binding_of j)
ahead_so None row least j is = absurd cc
ahead_so (Some by) row least j is = chosen (nat_le least (binding_of by) && goes_on row (binding_of by)) refl is
  where
    chosen : (b : Bool) → (nat_le least (binding_of by) && goes_on row (binding_of by)) ≡ b → (if b then Some by else None) ≡ Some j → (Some by ≡ Some j) × (least ≤ binding_of j)
    chosen true test e =
        let same : by ≡ j = cc in
        let low : least ≤ binding_of by = grind (arith, nat_tests, (and_parts (nat_le least (binding_of by)) (goes_on row (binding_of by)) test).0) in
        (e, omega (arith, low, ap binding_of same))
    chosen false test e = absurd cc

-- the joint binds at least so close
pub least_ahead : (s : Parser) (row least : ℕ) (j : Joint) (found : Option Joint) → found ≡ joint_ahead (joint_of (next s)) row least → found ≡ Some j → least ≤ binding_of j
least_ahead s row least j found is some = (ahead_so (joint_of (next s)) row least j (sym is ∙ some)).1

below_ahead : (o : Option Joint) (row least : ℕ) → is_below o least ≡ true → joint_ahead o row least ≡ None
below_ahead None row least e = refl
below_ahead (Some j) row least e =
    let low : nat_le least (binding_of j) ≡ false = grind (arith, nat_tests) in
    ap (λ (b : Bool). if b && goes_on row (binding_of j) then Some j else None) low

stops_ahead : (here : List Token) (row least : ℕ) → stops least here ≡ true → joint_ahead (joint_of (next_of None here)) row least ≡ None
stops_ahead [] row least e = refl
stops_ahead (t ∷ ts) row least e = below_ahead (joint_of t.piece) row least e

first_joint : (j : Joint) (here rest : List Token) → after_piece (joint_piece j) (Some here) ≡ Some rest → joint_of (next_of None here) ≡ Some j
first_joint j here rest is =
    let t = taken (joint_piece j) here rest is in
    ap (λ (x : List Token). joint_of (next_of None x)) t.here_is ∙ (ap joint_of t.piece_so ∙ joint_back j)

-- the part that stands ahead, with this joint
pub record Next (depth : ℕ) (in_parameter : Bool) (e : Expression) (rest : List Token) (tree : Expression) (here : List Token) (j : Joint) : Type 0 where
  pub part : Joining depth in_parameter tree here
  pub grows : Becomes depth in_parameter e rest (whole part) part.behind
  pub by_is : part.by ≡ j

next_at : (depth : ℕ) (in_parameter : Bool) (e : Expression) (rest : List Token) (tree : Expression) (here : List Token) (row least : ℕ) (j : Joint)
    → Becomes depth in_parameter e rest tree here → stops least rest ≡ true → joint_ahead (joint_of (next_of None here)) row least ≡ Some j → Next depth in_parameter e rest tree here j
next_at depth in_parameter e rest tree here row least j (done is ends) stop ahead =
    let never : None ≡ Some j = sym (stops_ahead rest row least stop) ∙ (ap (λ (x : List Token). joint_ahead (joint_of (next_of None x)) row least) (sym ends) ∙ ahead) in
    absurd cc
next_at depth in_parameter e rest tree here row least j (more part g) stop ahead =
    let same : Some part.by ≡ Some j = sym (first_joint part.by here part.next part.begins) ∙ (ahead_so (joint_of (next_of None here)) row least j ahead).0 in
    record { part = part; grows = g; by_is = cc }

pub next_sound : (s : Parser) → s.fault ≡ None → next s ≡ next_of None s.rest.now
next_sound s sound = ap (λ (f : Option _). next_of f s.rest.now) sound

-- there is no part more
ended_at : (depth : ℕ) (in_parameter : Bool) (e : Expression) (rest : List Token) (tree : Expression) (here : List Token) (row : Row) (least : ℕ)
    → IsJointRow row tree → Becomes depth in_parameter e rest tree here → least ≤ closeness e
    → ((j : Joint) → joint_ahead (joint_of (next_of None here)) row.binding least ≡ Some j → ⊥) → (tree ≡ e) × (here ≡ rest)
ended_at depth in_parameter e rest tree here row least is_row (done is ends) close none = (is, ends)
ended_at depth in_parameter e rest tree here row least is_row (more part g) close none =
    let low : least ≤ binding_of part.by = omega (arith, grown_close depth in_parameter e rest (whole part) part.behind g, closeness_joined part.by part.left_place tree part.right_place part.right) in
    let first : nat_le least (binding_of part.by) ≡ true = grind (arith, nat_tests) in
    let second = ap (λ (n : ℕ). goes_on n (binding_of part.by)) is_row.close ∙ row_goes_on part.by tree part.right part.joins in
    let both = and_from (nat_le least (binding_of part.by)) (goes_on row.binding (binding_of part.by)) first second in
    absurd (none part.by
    (ap (λ (o : Option Joint). joint_ahead o row.binding least) (first_joint part.by here part.next part.begins)
    ∙ ap (λ (b : Bool). if b then Some part.by else None) both))

pub ended : (s : Parser) (left : Expression) (row : Row) (least depth : ℕ) (e : Expression) (rest : List Token) (found : Option Joint)
    → Growing s left row least depth e rest → found ≡ joint_ahead (joint_of (next s)) row.binding least → ((j : Joint) → found ≡ Some j → ⊥) → StandsBefore s rest × Alike left e
ended s left row least depth e rest found g is none =
    let both = ended_at depth s.in_parameter e rest g.tree s.rest.now row least g.row_so g.grows g.close
    (λ j some. none j (is ∙ (ap (λ (p : Piece). joint_ahead (joint_of p) row.binding least) (next_sound s g.sound) ∙ some))) in
    (record { sound = g.sound; left = both.1 }, subst (λ (x : Expression). Alike left x) both.0 g.alike)

-- the row goes on, or what was read doesn't become a tree within the limits
pub may_lengthen : (s : Parser) (left : Expression) (row : Row) (j : Joint) (least depth : ℕ) (found : Option Joint) (longer : Result Row ParseReason) (why : ParseReason) (e : Expression) (rest : List Token)
    → found ≡ joint_ahead (joint_of (next s)) row.binding least → found ≡ Some j
    → ((a b : Expression) (p q : Place) → IsJointRow row a → may_join j a b ≡ true → parts_in_row (joined_parts j p a q b) ≤ 256 → (next : Row) × (longer ≡ Ok next) × IsJointRow next (joined_parts j p a q b))
    → longer ≡ Err why → Growing s left row least depth e rest → ⊥
may_lengthen s left row j least depth found longer why e rest is some lengthen failed g =
    refused (next_at depth s.in_parameter e rest g.tree s.rest.now row.binding least j g.grows g.ends
    (ap (λ (p : Piece). joint_ahead (joint_of p) row.binding least) (sym (next_sound s g.sound)) ∙ (sym is ∙ some)))
  where
    refused : Next depth s.in_parameter e rest g.tree s.rest.now j → ⊥
    refused n =
        let fit : may_join j g.tree n.part.right ≡ true = subst (λ (x : Joint). may_join x g.tree n.part.right ≡ true) n.by_is n.part.joins in
        let few : parts_in_row (joined_parts j n.part.left_place g.tree n.part.right_place n.part.right) ≤ 256 =
        subst (λ (x : Joint). parts_in_row (joined_parts x n.part.left_place g.tree n.part.right_place n.part.right) ≤ 256) n.by_is n.part.narrow in
        let long = lengthen g.tree n.part.right n.part.left_place n.part.right_place g.row_so fit few in
        let never : Err why ≡ Ok long.0 = sym failed ∙ long.1 in
        cc

-- the row that was found is the longer one
pub row_found : (row longer : Row) (j : Joint) (found : Result Row ParseReason)
    → ((a b : Expression) (p q : Place) → IsJointRow row a → may_join j a b ≡ true → parts_in_row (joined_parts j p a q b) ≤ 256 → (next : Row) × (found ≡ Ok next) × IsJointRow next (joined_parts j p a q b))
    → found ≡ Ok longer → (a b : Expression) (p q : Place) → IsJointRow row a → may_join j a b ≡ true → parts_in_row (joined_parts j p a q b) ≤ 256 → IsJointRow longer (joined_parts j p a q b)
row_found row longer j found lengthen is a b p q is_row fit few =
    let long = lengthen a b p q is_row fit few in
    let same : Ok long.0 ≡ Ok longer = sym long.1 ∙ is in
    let row_is : long.0 ≡ longer = cc in
    subst (λ (r : Row). IsJointRow r (joined_parts j p a q b)) row_is long.2

-- a part more was read
pub grown : (s s2 s3 s4 s5 : Parser) (left right made : Expression) (row longer : Row) (j : Joint) (least depth close : ℕ) (kind : Bool) (found : Option Joint) (e : Expression) (rest : List Token)
    → found ≡ joint_ahead (joint_of (next s)) row.binding least → found ≡ Some j
    → ((a b : Expression) (p q : Place) → IsJointRow row a → may_join j a b ≡ true → parts_in_row (joined_parts j p a q b) ≤ 256 → IsJointRow longer (joined_parts j p a q b))
    → kind ≡ joins_conditions j → (is_condition left ≡ kind → s2 ≡ s)
    → s3.rest.now ≡ behind_next s2.rest.now → s3.fault ≡ s2.fault → Goes s s3
    → close ≡ binding_of j
    → ((e : Expression) (rest : List Token) → Ahead s3 depth e rest → MayStandAmongJoints (close + 1) e rest → Finds s4 rest (Alike right e)) → Goes s3 s4
    → ((a b : Expression) (p q : Place) (rest : List Token) → StandsBefore s4 rest → Alike left a → Alike right b → may_join j a b ≡ true → Finds s5 rest (Alike made (joined_parts j p a q b))) → Goes s4 s5
    → Growing s left row least depth e rest → (s5.fault ≡ Some Memory) ⊎ Growing s5 made longer least depth e rest
grown s s2 s3 s4 s5 left right made row longer j least depth close kind found e rest is some lengthen kind_is want left_is fault_is goes close_is read goes4 put goes5 g =
    let n = next_at depth s.in_parameter e rest g.tree s.rest.now row.binding least j g.grows g.ends
    (ap (λ (p : Piece). joint_ahead (joint_of p) row.binding least) (sym (next_sound s g.sound)) ∙ (sym is ∙ some)) in
    let part = n.part in
    let fit : may_join j g.tree part.right ≡ true = subst (λ (x : Joint). may_join x g.tree part.right ≡ true) n.by_is part.joins in
    let few : parts_in_row (joined_parts j part.left_place g.tree part.right_place part.right) ≤ 256 =
    subst (λ (x : Joint). parts_in_row (joined_parts x part.left_place g.tree part.right_place part.right) ≤ 256) n.by_is part.narrow in
    let long = lengthen g.tree part.right part.left_place part.right_place g.row_so fit few in
    let same2 = want (alike_condition left g.tree g.alike ∙ ((joins_so j g.tree part.right fit).left_kind ∙ sym kind_is)) in
    let begins : after_piece (joint_piece part.by) (Some s2.rest.now) ≡ Some part.next =
    ap (λ (u : Parser). after_piece (joint_piece part.by) (Some u.rest.now)) same2 ∙ part.begins in
    let stands3 = stepped s2 s3 (joint_piece part.by) part.next left_is fault_is (ap (λ (u : Parser). u.fault) same2 ∙ g.sound) begins in
    let ahead = ahead_at s s3 depth part.right part.next part.behind goes stands3 part.spelled part.within in
    let joined_close = closeness_joined part.by part.left_place g.tree part.right_place part.right in
    let by_close = ap binding_of n.by_is in
    let stop : stops (closeness (whole part) + 1) part.behind ≡ true =
    grown_stops depth s.in_parameter e rest (whole part) part.behind least n.grows g.close g.ends in
    let close_so : closeness (whole part) ≡ close = joined_close ∙ (by_close ∙ sym close_is) in
    let stand : MayStandAmongJoints (close + 1) part.right part.behind = record {
      close = omega (arith, right_of_joint j g.tree part.right fit, close_is);
      number = λ h. right_number j g.tree part.right fit (omega (arith, h, close_is));
      ends = subst (λ (k : ℕ). stops (k + 1) part.behind ≡ true) close_so stop;
    } in
    let kind5 : s5.in_parameter ≡ s.in_parameter = same_kind s s5 (goes_further s s3 s5 goes (goes_further s3 s4 s5 goes4 goes5)) in
    grown_from s5 made longer least depth e rest (joined_parts j part.left_place g.tree part.right_place part.right) part.behind s.in_parameter
    (found_then s4 s5 part.behind part.behind (Alike right part.right) (Alike made (joined_parts j part.left_place g.tree part.right_place part.right))
    (read part.right part.behind ahead stand) goes5.sticks
    (λ stands4 alike. put g.tree part.right part.left_place part.right_place part.behind stands4 g.alike alike fit))
    long kind5
    (subst (λ (x : Joint). Becomes depth s.in_parameter e rest (joined_parts x part.left_place g.tree part.right_place part.right) part.behind) n.by_is n.grows)
    g.close g.ends
  where
    grown_from : (t : Parser) (made : Expression) (longer : Row) (least depth : ℕ) (e : Expression) (rest : List Token) (tree : Expression) (here : List Token) (in_parameter : Bool)
        → Finds t here (Alike made tree) → IsJointRow longer tree → t.in_parameter ≡ in_parameter → Becomes depth in_parameter e rest tree here → least ≤ closeness e → stops least rest ≡ true
        → (t.fault ≡ Some Memory) ⊎ Growing t made longer least depth e rest
    grown_from t made longer least depth e rest tree here in_parameter (inl memory) is_row kind g close ends = inl memory
    grown_from t made longer least depth e rest tree here in_parameter (inr found) is_row kind g close ends = inr (record {
      sound = found.0.sound;
      tree = tree;
      alike = found.1;
      row_so = is_row;
      grows = subst (λ (x : List Token). Becomes depth t.in_parameter e rest tree x) (sym found.0.left) (subst (λ (k : Bool). Becomes depth k e rest tree here) (sym kind) g);
      close = close;
      ends = ends;
    })

-- ---- a choice

pub record ChoiceParts (c a b : Expression) (here rest : List Token) : Type 0 where
  pub first : List Token
  pub condition_end : List Token
  pub second : List Token
  pub yes_end : List Token
  pub third : List Token
  pub begins : after_piece (piece.Word word.If) (Some here) ≡ Some first
  pub condition : after_expression c (Some first) ≡ Some condition_end
  pub then_so : after_piece (piece.Word word.Then) (Some condition_end) ≡ Some second
  pub yes_so : after_expression a (Some second) ≡ Some yes_end
  pub else_so : after_piece (piece.Word word.Else) (Some yes_end) ≡ Some third
  pub no_so : after_expression b (Some third) ≡ Some rest
  pub condition_fits : fits_binding c 0 true ≡ true
  pub yes_fits : fits_binding a 4 false ≡ true
  pub no_fits : fits_binding b 4 false ≡ true

pub choice_parts : (p : Place) (c : Expression) (q : Place) (a : Expression) (s : Place) (b : Expression) (here rest : List Token)
    → after_expression (form.Choice' p c q a s b) (Some here) ≡ Some rest → ChoiceParts c a b here rest
choice_parts p c q a s b here rest is =
    let x1 : Rest = after_piece (piece.Word word.If) (Some here) in
    let x2 : Rest = after_expression c x1 in
    let x3 : Rest = after_piece (piece.Word word.Then) x2 in
    let x4 : Rest = after_expression a x3 in
    let x5 : Rest = after_piece (piece.Word word.Else) x4 in
    let so = only_so (fits_binding c 0 true && fits_binding a 4 false && fits_binding b 4 false) (after_expression b x5) rest is in
    let two = and_parts (fits_binding c 0 true && fits_binding a 4 false) (fits_binding b 4 false) so.0 in
    let one = and_parts (fits_binding c 0 true) (fits_binding a 4 false) two.0 in
    let l5 = from_tree b x5 rest so.1 in
    let l4 = from_piece (piece.Word word.Else) x4 l5.here l5.is in
    let l3 = from_tree a x3 l4.here l4.is in
    let l2 = from_piece (piece.Word word.Then) x2 l3.here l3.is in
    let l1 = from_tree c x1 l2.here l2.is in
    record {
      first = l1.here;
      condition_end = l2.here;
      second = l3.here;
      yes_end = l4.here;
      third = l5.here;
      begins = l1.is;
      condition = l1.so;
      then_so = l2.so;
      yes_so = l3.so;
      else_so = l4.so;
      no_so = l5.so;
      condition_fits = one.0;
      yes_fits = one.1;
      no_fits = two.1;
    }

-- ---- the first part

opened : (a : Expression) (here rest : List Token) → is_operand a ≡ true → after_expression a (Some here) ≡ Some rest → (mid : List Token) × (after_piece (opening_piece a) (Some here) ≡ Some mid)
opened (form.Binary' o p a q b) here rest e is = absurd (false≢true e)
opened (form.Compare' c p a q b) here rest e is = absurd (false≢true e)
opened (form.Both' p a q b) here rest e is = absurd (false≢true e)
opened (form.Either' p a q b) here rest e is = absurd (false≢true e)
opened (form.Negative' p a) here rest e is = some_before a (after_piece piece.Minus (Some here)) rest (only_so (fits_binding a 8 false) (after_expression a (after_piece piece.Minus (Some here))) rest is).1
opened (form.Negation' p a) here rest e is = some_before a (after_piece (piece.Word word.Not) (Some here)) rest (only_so (fits_binding a 2 true) (after_expression a (after_piece (piece.Word word.Not) (Some here))) rest is).1
opened (form.Grouped' p a) here rest e is =
    let mid = some_before_piece piece.Close (after_expression a (after_piece piece.Open (Some here))) rest is in
    some_before a (after_piece piece.Open (Some here)) mid.0 mid.1
opened (form.Choice' p c q a s b) here rest e is =
    let parts_in_row = choice_parts p c q a s b here rest is in (parts_in_row.first, parts_in_row.begins)
opened a here rest e is = (rest, is)

-- the next piece is the one that the tree begins with
pub opening_at : (s : Parser) (a : Expression) (rest : List Token) → s.fault ≡ None → after_expression a (Some s.rest.now) ≡ Some rest → is_operand a ≡ true → next s ≡ opening_piece a
opening_at s a rest sound is e =
    let begins = opened a s.rest.now rest e is in
    let t = taken (opening_piece a) s.rest.now begins.0 begins.1 in
    next_sound s sound ∙ (ap (next_of None) t.here_is ∙ t.piece_so)

-- ---- what stands behind a prefix

pub record Inner (kind : Prefix) (least depth : ℕ) (in_parameter : Bool) (p : Place) (a : Expression) (here rest : List Token) : Type 0 where
  pub begin : Piece
  pub first : List Token
  pub behind : List Token
  pub begins : after_piece begin (Some here) ≡ Some first
  pub spelled : after_expression a (Some first) ≡ Some behind
  pub ends : ends_prefix kind a behind rest
  pub within : IsTreeWithin (depth - 1) in_parameter a
  pub stand : MayStandAmongJoints (inside kind least) a behind

if_four : (least n : ℕ) → (4 ≤ least → 4 ≤ n) → (if nat_le 4 least then 4 else 0) ≤ n
if_four least n h = go (nat_le 4 least) refl
  where
    go : (b : Bool) → nat_le 4 least ≡ b → (if b then 4 else 0) ≤ n
    go true e = h (grind (arith, nat_tests))
    go false e = omega arith

four_if : (least : ℕ) → 4 ≤ (if nat_le 4 least then 4 else 0) → 4 ≤ least
four_if least h = grind (arith, nat_tests)

pub inner : (kind : Prefix) (least depth : ℕ) (in_parameter : Bool) (p : Place) (a : Expression) (here rest : List Token)
    → after_expression (enclosed kind p a) (Some here) ≡ Some rest → IsTreeWithin depth in_parameter (enclosed kind p a) → MayBegin least (enclosed kind p a) rest → Inner kind least depth in_parameter p a here rest
inner prefix.Not least depth in_parameter p a here rest is w may =
    let only = only_so (fits_binding a 2 true) (after_expression a (after_piece (piece.Word word.Not) (Some here))) rest is in
    let fit = fits_so a 2 true only.0 in
    let first = some_before a (after_piece (piece.Word word.Not) (Some here)) rest only.1 in
    record {
      begin = piece.Word word.Not;
      first = first.0;
      behind = rest;
      begins = first.1;
      spelled = ap (after_expression a) (sym first.1) ∙ only.1;
      ends = (refl, fit.1);
      within = record { nested = omega (arith, w.nested); narrow = w.narrow; rankless = w.rankless };
      stand = record { close = least_close a 2 (omega arith) fit.0; number = λ h. absurd (omega (arith, h)); ends = may.ends };
    }
inner prefix.Minus least depth in_parameter p a here rest is w may =
    let only = only_so (fits_binding a 8 false) (after_expression a (after_piece piece.Minus (Some here))) rest is in
    let fit = fits_so a 8 false only.0 in
    let first = some_before a (after_piece piece.Minus (Some here)) rest only.1 in
    record {
      begin = piece.Minus;
      first = first.0;
      behind = rest;
      begins = first.1;
      spelled = ap (after_expression a) (sym first.1) ∙ only.1;
      ends = (refl, fit.1);
      within = record { nested = omega (arith, w.nested); narrow = w.narrow; rankless = w.rankless };
      stand = record { close = factor_close a fit.0; number = λ h. fit.1; ends = may.ends };
    }
inner prefix.Parentheses least depth in_parameter p a here rest is w may =
    let mid = some_before_piece piece.Close (after_expression a (after_piece piece.Open (Some here))) rest is in
    let first = some_before a (after_piece piece.Open (Some here)) mid.0 mid.1 in
    let close : after_piece piece.Close (Some mid.0) ≡ Some rest = ap (after_piece piece.Close) (sym mid.1) ∙ is in
    record {
      begin = piece.Open;
      first = first.0;
      behind = mid.0;
      begins = first.1;
      spelled = ap (after_expression a) (sym first.1) ∙ mid.1;
      ends = close;
      within = record { nested = omega (arith, w.nested); narrow = w.narrow; rankless = w.rankless };
      stand = record {
        close = if_four least (closeness a) (λ h. number_close a (may.number h));
        number = λ h. may.number (four_if least h);
        ends = stops_before piece.Close mid.0 rest (inside prefix.Parentheses least) close refl;
      };
    }

pub begun_prefix : (a : Expression) (kind : Prefix) → begun a ≡ beginning.Prefix kind → (p : Place) × (b : Expression) × (a ≡ enclosed kind p b)
begun_prefix (form.Negative' p b) kind e = let same : prefix.Minus ≡ kind = cc in (p, b, ap (λ (k : Prefix). enclosed k p b) same)
begun_prefix (form.Grouped' p b) kind e = let same : prefix.Parentheses ≡ kind = cc in (p, b, ap (λ (k : Prefix). enclosed k p b) same)
begun_prefix (form.Negation' p b) kind e = let same : prefix.Not ≡ kind = cc in (p, b, ap (λ (k : Prefix). enclosed k p b) same)
begun_prefix a kind e = absurd cc

pub record IsChoice (a : Expression) : Type 0 where
  pub p : Place
  pub condition : Expression
  pub q : Place
  pub yes : Expression
  pub s : Place
  pub no : Expression
  pub is : a ≡ form.Choice' p condition q yes s no

pub begun_choice : (a : Expression) → begun a ≡ beginning.Choice → IsChoice a
begun_choice (form.Choice' p c q a s b) e = record { p = p; condition = c; q = q; yes = a; s = s; no = b; is = refl }
begun_choice a e = absurd cc

-- the parts of a choice that is ahead may be read one after the other
pub record ChoiceAhead (depth : ℕ) (in_parameter : Bool) (c a b : Expression) (here rest : List Token) : Type 0 where
  pub parts : ChoiceParts c a b here rest
  pub condition : IsTreeWithin (depth - 1) in_parameter c
  pub yes : IsTreeWithin (depth - 1) in_parameter a
  pub no : IsTreeWithin (depth - 1) in_parameter b
  pub condition_stands : MayStandAmongJoints 0 c parts.condition_end
  pub yes_stands : MayStandAmongJoints 4 a parts.yes_end
  pub no_stands : MayStandAmongJoints 4 b rest
  pub is_condition_so : is_condition c ≡ true
  pub yes_number : is_condition a ≡ false
  pub no_number : is_condition b ≡ false

pub choice_ahead : (old : Parser) (depth : ℕ) (p : Place) (c : Expression) (q : Place) (a : Expression) (s : Place) (b : Expression) (rest : List Token)
    → Ahead old depth (form.Choice' p c q a s b) rest → stops 4 rest ≡ true → ChoiceAhead depth old.in_parameter c a b old.rest.now rest
choice_ahead old depth p c q a s b rest ahead stop =
    let parts_in_row = choice_parts p c q a s b old.rest.now rest ahead.spelled in
    let w = ahead.within in
    let narrow = and_parts (is_narrow c && is_narrow a) (is_narrow b) w.narrow in
    let narrower = and_parts (is_narrow c) (is_narrow a) narrow.0 in
    let rank = λ (f : old.in_parameter ≡ true). and_parts (has_no_rank c && has_no_rank a) (has_no_rank b) (w.rankless f) in
    let ranker = λ (f : old.in_parameter ≡ true). and_parts (has_no_rank c) (has_no_rank a) (rank f).0 in
    let condition_fit = fits_so c 0 true parts_in_row.condition_fits in
    let yes_fit = fits_so a 4 false parts_in_row.yes_fits in
    let no_fit = fits_so b 4 false parts_in_row.no_fits in
    record {
      parts = parts_in_row;
      condition = record { nested = omega (arith, w.nested); narrow = narrower.0; rankless = λ f. (ranker f).0 };
      yes = record { nested = omega (arith, w.nested); narrow = narrower.1; rankless = λ f. (ranker f).1 };
      no = record { nested = omega (arith, w.nested); narrow = narrow.1; rankless = λ f. (rank f).1 };
      condition_stands = record { close = omega arith; number = λ h. absurd (omega (arith, h)); ends = stops_before (piece.Word word.Then) parts_in_row.condition_end parts_in_row.second 0 parts_in_row.then_so refl };
      yes_stands = record { close = least_close a 4 (omega arith) yes_fit.0; number = λ h. yes_fit.1; ends = stops_before (piece.Word word.Else) parts_in_row.yes_end parts_in_row.third 4 parts_in_row.else_so refl };
      no_stands = record { close = least_close b 4 (omega arith) no_fit.0; number = λ h. no_fit.1; ends = stop };
      is_condition_so = condition_fit.1;
      yes_number = yes_fit.1;
      no_number = no_fit.1;
    }
