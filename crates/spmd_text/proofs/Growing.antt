-- A tree that is spelled somewhere is read there from its first part on.
use Rattle.std.proofs.Common.{◌≡◌, ◌⊎◌, inl, inr, ℕ, ◌+◌, ◌-◌, ◌<◌, ◌≤◌, min, max, Bool, true, false, ◌&&◌, nat_le, List, [], ◌∷◌, Option, Some, None, refl, ap, sym, subst, ◌∙◌, arith}
use Rattle.std.proofs.lemmas.Bool.{and_parts, leb-true, false≢true}
use Rattle.std.proofs.lemmas.Bool.Decides.{nat_tests}
use Rattle.spmd_tree.specs.declared.tree.Operator.TheVariants as operator
use Rattle.spmd_tree.specs.declared.tree.Comparison.TheVariants as comparison
use Rattle.spmd_tree.specs.declared.tree.Expression.{Expression}
use Rattle.spmd_tree.specs.declared.tree.Expression.TheVariants as form
use Rattle.spmd_text.specs.declared.joints.Joint.{Joint}
use Rattle.spmd_text.specs.declared.joints.Joint.TheVariants as joint
use Rattle.spmd_text.specs.declared.piece.Piece.{Piece}
use Rattle.spmd_text.specs.declared.piece.Token.{Token}
use Rattle.spmd_text.specs.Spelling.{Rest, only, after_piece, after_expression, is_condition, binding, same, fits_binding}
use Rattle.spmd_text.specs.parts.Joints.{joint_of, joint_piece, binding_of, joins_conditions, Place, joined_parts, left_least, right_least, may_join, is_below, stops, goes_on}
use Rattle.spmd_text.specs.Joints.{closeness}
use Rattle.spmd_text.specs.Limits.{nesting, parts_in_row, parts_with_joint, is_narrow, has_no_rank, IsTreeWithin}
use Rattle.spmd_text.specs.parts.Growing.{is_operand, whole, Becomes, done, more}
use Rattle.spmd_text.proofs.Pieces.{taken}

-- ---- nothing begins with nothing

only_none : (b : Bool) → only b None ≡ None
only_none true = refl
only_none false = refl

pub strict : (e : Expression) → after_expression e None ≡ None
strict (form.Literal n) = refl
strict form.Null = refl
strict form.Rank = refl
strict form.Size = refl
strict (form.Named k) = refl
strict (form.Binary' o p a q b) = rw (strict a, strict b) (only_none _)
strict (form.Compare' c p a q b) = rw (strict a, strict b) (only_none _)
strict (form.Negative' p a) = rw (strict a) (only_none _)
strict (form.Grouped' p a) = rw (strict a) refl
strict (form.Negation' p a) = rw (strict a) (only_none _)
strict (form.Both' p a q b) = rw (strict a, strict b) (only_none _)
strict (form.Either' p a q b) = rw (strict a, strict b) (only_none _)
strict (form.Choice' p c q a s b) = rw (strict c, strict a, strict b) (only_none _)

pub some_before : (e : Expression) (x : Rest) (rest : List Token) → after_expression e x ≡ Some rest → (here : List Token) × (x ≡ Some here)
some_before e None rest is = absurd (let never : None ≡ Some rest = sym (strict e) ∙ is in cc)
some_before e (Some here) rest is = (here, refl)

pub some_before_piece : (p : Piece) (x : Rest) (rest : List Token) → after_piece p x ≡ Some rest → (here : List Token) × (x ≡ Some here)
some_before_piece p None rest is = absurd cc
some_before_piece p (Some here) rest is = (here, refl)

pub only_so : (b : Bool) (x : Rest) (rest : List Token) → only b x ≡ Some rest → (b ≡ true) × (x ≡ Some rest)
only_so true x rest is = (refl, is)
only_so false x rest is = absurd cc

-- what stands before a tree or a piece behind which these pieces are left
pub record From (x : Rest) (go : Rest → Rest) (rest : List Token) : Type 0 where
  pub here : List Token
  pub is : x ≡ Some here
  pub so : go (Some here) ≡ Some rest

pub from_tree : (e : Expression) (x : Rest) (rest : List Token) → after_expression e x ≡ Some rest → From x (after_expression e) rest
from_tree e x rest is = let b = some_before e x rest is in record { here = b.0; is = b.1; so = ap (after_expression e) (sym b.1) ∙ is }

pub from_piece : (p : Piece) (x : Rest) (rest : List Token) → after_piece p x ≡ Some rest → From x (after_piece p) rest
from_piece p x rest is = let b = some_before_piece p x rest is in record { here = b.0; is = b.1; so = ap (after_piece p) (sym b.1) ∙ is }

-- ---- the scales

unfoldable pub scale : ℕ → ℕ
scale n = min n 4 + min (n - 5) 1 + min (n - 7) 1

pub scaled : (a : Expression) → closeness a ≡ scale (binding a)
unfolding scale
scaled (form.Binary' operator.Plus p a q b) = refl
scaled (form.Binary' o p a q b) = refl
scaled (form.Compare' c p a q b) = refl
scaled a = refl

pub operand_binding : (a : Expression) → is_operand a ≡ true → (binding a ≡ 2) ⊎ ((binding a ≡ 4) ⊎ (binding a ≡ 8))
operand_binding (form.Binary' o p a q b) e = absurd (false≢true e)
operand_binding (form.Compare' c p a q b) e = absurd (false≢true e)
operand_binding (form.Both' p a q b) e = absurd (false≢true e)
operand_binding (form.Either' p a q b) e = absurd (false≢true e)
operand_binding (form.Negation' p a) e = inl refl
operand_binding (form.Choice' p c q a s b) e = inr (inl refl)
operand_binding a e = inr (inr refl)

left_close : (j : Joint) (n : ℕ) → left_least j ≤ n → binding_of j ≤ scale n
unfolding scale
left_close joint.Or n h = omega arith
left_close joint.And n h = omega arith
left_close (joint.Compared c) n h = omega arith
left_close (joint.Between operator.Plus) n h = omega arith
left_close (joint.Between o) n h = omega arith

right_close : (j : Joint) (n : ℕ) → right_least j ≤ n → binding_of j + 1 ≤ scale n
unfolding scale
right_close joint.Or n h = omega arith
right_close joint.And n h = omega arith
right_close (joint.Compared c) n h = omega arith
right_close (joint.Between operator.Plus) n h = omega arith
right_close (joint.Between o) n h = omega arith

operand_close : (j : Joint) (n : ℕ) → (n ≡ 2) ⊎ ((n ≡ 4) ⊎ (n ≡ 8)) → left_least j ≤ n → binding_of j < scale n
unfolding scale
operand_close joint.Or n f h = omega arith
operand_close joint.And n f h = omega arith
operand_close (joint.Compared c) n f h = omega arith
operand_close (joint.Between operator.Plus) n f h = omega arith
operand_close (joint.Between o) n f h = omega arith

row_close : (j : Joint) (n : ℕ) → left_least j ≤ n → scale n ≡ 3 → binding_of j < 3
unfolding scale
row_close joint.Or n h e = omega arith
row_close joint.And n h e = omega arith
row_close (joint.Compared c) n h e = omega arith
row_close (joint.Between operator.Plus) n h e = omega arith
row_close (joint.Between o) n h e = omega arith

kind_of_close : (j : Joint) → 3 ≤ binding_of j → joins_conditions j ≡ false
kind_of_close joint.Or h = absurd (omega arith)
kind_of_close joint.And h = absurd (omega arith)
kind_of_close j h = refl

-- ---- what stands at a joint

pub record Joins (j : Joint) (a b : Expression) : Type 0 where
  pub left : left_least j ≤ binding a
  pub right : right_least j ≤ binding b
  pub left_kind : is_condition a ≡ joins_conditions j
  pub right_kind : is_condition b ≡ joins_conditions j

same_so : (a b : Bool) → same a b ≡ true → b ≡ a
same_so true b e = e
same_so false true e = absurd (false≢true e)
same_so false false e = refl

pub fits_so : (a : Expression) (least : ℕ) (condition : Bool) → fits_binding a least condition ≡ true → (least ≤ binding a) × (is_condition a ≡ condition)
fits_so a least condition e =
    let both = and_parts (nat_le least (binding a)) (same condition (is_condition a)) e in
    (leb-true least (binding a) both.0, same_so condition (is_condition a) both.1)

pub joins_so : (j : Joint) (a b : Expression) → may_join j a b ≡ true → Joins j a b
joins_so j a b e =
    let both = and_parts (fits_binding a (left_least j) (joins_conditions j)) (fits_binding b (right_least j) (joins_conditions j)) e in
    let l = fits_so a (left_least j) (joins_conditions j) both.0 in
    let r = fits_so b (right_least j) (joins_conditions j) both.1 in
    record { left = l.0; right = r.0; left_kind = l.1; right_kind = r.1 }

-- the joint binds no closer than what stands left of it
pub left_of_joint : (j : Joint) (a b : Expression) → may_join j a b ≡ true → binding_of j ≤ closeness a
left_of_joint j a b e = rw (scaled a) (left_close j (binding a) (joins_so j a b e).left)

pub right_of_joint : (j : Joint) (a b : Expression) → may_join j a b ≡ true → binding_of j + 1 ≤ closeness b
right_of_joint j a b e = rw (scaled b) (right_close j (binding b) (joins_so j a b e).right)

pub operand_of_joint : (j : Joint) (a b : Expression) → is_operand a ≡ true → may_join j a b ≡ true → binding_of j < closeness a
operand_of_joint j a b f e = rw (scaled a) (operand_close j (binding a) (operand_binding a f) (joins_so j a b e).left)

pub row_goes_on : (j : Joint) (a b : Expression) → may_join j a b ≡ true → goes_on (closeness a) (binding_of j) ≡ true
row_goes_on j a b e =
    let low : binding_of j ≤ closeness a = left_of_joint j a b e in
    let alone : closeness a ≡ 3 → binding_of j < 3 = λ is. row_close j (binding a) (joins_so j a b e).left (sym (scaled a) ∙ is) in
    grind (arith, nat_tests)

pub right_number : (j : Joint) (a b : Expression) → may_join j a b ≡ true → 4 ≤ binding_of j + 1 → is_condition b ≡ false
right_number j a b e h = (joins_so j a b e).right_kind ∙ kind_of_close j (omega arith)

pub left_number : (j : Joint) (a b : Expression) → may_join j a b ≡ true → 4 ≤ binding_of j → is_condition a ≡ false
left_number j a b e h = (joins_so j a b e).left_kind ∙ kind_of_close j (omega arith)

-- ---- a tree with a joint

pub closeness_joined : (j : Joint) (p : Place) (a : Expression) (q : Place) (b : Expression) → closeness (joined_parts j p a q b) ≡ binding_of j
closeness_joined joint.Or p a q b = refl
closeness_joined j p a q b = refl

pub parts_joined : (j : Joint) (p : Place) (a : Expression) (q : Place) (b : Expression) → parts_in_row (joined_parts j p a q b) ≡ parts_with_joint (binding_of j) (closeness a) (parts_in_row a)
parts_joined joint.Or p a q b = refl
parts_joined j p a q b = refl

pub spelled_joined : (j : Joint) (p : Place) (a : Expression) (q : Place) (b : Expression) (x : Rest)
    → after_expression (joined_parts j p a q b) x ≡ only (may_join j a b) (after_expression b (after_piece (joint_piece j) (after_expression a x)))
spelled_joined joint.Or p a q b x = refl
spelled_joined j p a q b x = refl

pub nesting_joined : (j : Joint) (p : Place) (a : Expression) (q : Place) (b : Expression) → nesting (joined_parts j p a q b) ≡ max (nesting a) (nesting b)
nesting_joined joint.Or p a q b = refl
nesting_joined j p a q b = refl

pub narrow_joined : (j : Joint) (p : Place) (a : Expression) (q : Place) (b : Expression) → is_narrow (joined_parts j p a q b) ≡ (nat_le (parts_in_row (joined_parts j p a q b)) 256 && is_narrow a && is_narrow b)
narrow_joined joint.Or p a q b = refl
narrow_joined j p a q b = refl

pub rankless_joined : (j : Joint) (p : Place) (a : Expression) (q : Place) (b : Expression) → has_no_rank (joined_parts j p a q b) ≡ (has_no_rank a && has_no_rank b)
rankless_joined joint.Or p a q b = refl
rankless_joined j p a q b = refl

pub record WithinBoth (depth : ℕ) (in_parameter : Bool) (j : Joint) (p : Place) (a : Expression) (q : Place) (b : Expression) : Type 0 where
  pub left : IsTreeWithin depth in_parameter a
  pub right : IsTreeWithin depth in_parameter b
  pub narrow : parts_in_row (joined_parts j p a q b) ≤ 256

within_joined : (depth : ℕ) (in_parameter : Bool) (j : Joint) (p : Place) (a : Expression) (q : Place) (b : Expression)
    → IsTreeWithin depth in_parameter (joined_parts j p a q b) → WithinBoth depth in_parameter j p a q b
within_joined depth in_parameter j p a q b w =
    let deep = nesting_joined j p a q b in
    let n = sym (narrow_joined j p a q b) ∙ w.narrow in
    let short = and_parts (nat_le (parts_in_row (joined_parts j p a q b)) 256 && is_narrow a) (is_narrow b) n in
    let first = and_parts (nat_le (parts_in_row (joined_parts j p a q b)) 256) (is_narrow a) short.0 in
    let rank = λ (f : in_parameter ≡ true). and_parts (has_no_rank a) (has_no_rank b) (sym (rankless_joined j p a q b) ∙ w.rankless f) in
    record {
      left = record { nested = omega (arith, w.nested); narrow = first.1; rankless = λ f. (rank f).0 };
      right = record { nested = omega (arith, w.nested); narrow = short.1; rankless = λ f. (rank f).1 };
      narrow = leb-true (parts_in_row (joined_parts j p a q b)) 256 first.0;
    }

-- ---- from the first part on

pub record First (depth : ℕ) (in_parameter : Bool) (e : Expression) (rest here : List Token) : Type 0 where
  pub part : Expression
  pub behind : List Token
  pub operand : is_operand part ≡ true
  pub spelled : after_expression part (Some here) ≡ Some behind
  pub within : IsTreeWithin depth in_parameter part
  pub grows : Becomes depth in_parameter e rest part behind

-- the left part, with what goes on from it
pub record Left (depth : ℕ) (in_parameter : Bool) (e : Expression) (rest : List Token) (a : Expression) (here : List Token) : Type 0 where
  pub behind : List Token
  pub spelled : after_expression a (Some here) ≡ Some behind
  pub within : IsTreeWithin depth in_parameter a
  pub grows : Becomes depth in_parameter e rest a behind

left_first : (depth : ℕ) (in_parameter : Bool) (e : Expression) (rest : List Token) (j : Joint) (p : Place) (a : Expression) (q : Place) (b : Expression) (here behind : List Token)
    → after_expression (joined_parts j p a q b) (Some here) ≡ Some behind → IsTreeWithin depth in_parameter (joined_parts j p a q b)
    → Becomes depth in_parameter e rest (joined_parts j p a q b) behind → Left depth in_parameter e rest a here
left_first depth in_parameter e rest j p a q b here behind is w g =
    let fit = only_so (may_join j a b) (after_expression b (after_piece (joint_piece j) (after_expression a (Some here)))) behind (sym (spelled_joined j p a q b (Some here)) ∙ is) in
    let before = some_before b (after_piece (joint_piece j) (after_expression a (Some here))) behind fit.1 in
    let mid = some_before_piece (joint_piece j) (after_expression a (Some here)) before.0 before.1 in
    let both = within_joined depth in_parameter j p a q b w in
    record {
      behind = mid.0;
      spelled = mid.1;
      within = both.left;
      grows = more (record {
        by = j;
        left_place = p;
        right_place = q;
        right = b;
        next = before.0;
        behind = behind;
        begins = ap (after_piece (joint_piece j)) (sym mid.1) ∙ before.1;
        spelled = ap (after_expression b) (sym before.1) ∙ fit.1;
        joins = fit.0;
        within = both.right;
        narrow = both.narrow;
      }) g;
    }

pub first : (depth : ℕ) (in_parameter : Bool) (e : Expression) (rest : List Token) (a : Expression) (here behind : List Token)
    → after_expression a (Some here) ≡ Some behind → IsTreeWithin depth in_parameter a → Becomes depth in_parameter e rest a behind → First depth in_parameter e rest here
first depth in_parameter e rest (form.Binary' o p a q b) here behind is w g =
    let l = left_first depth in_parameter e rest (joint.Between o) p a q b here behind is w g in
    first depth in_parameter e rest a here l.behind l.spelled l.within l.grows
first depth in_parameter e rest (form.Compare' c p a q b) here behind is w g =
    let l = left_first depth in_parameter e rest (joint.Compared c) p a q b here behind is w g in
    first depth in_parameter e rest a here l.behind l.spelled l.within l.grows
first depth in_parameter e rest (form.Both' p a q b) here behind is w g =
    let l = left_first depth in_parameter e rest joint.And p a q b here behind is w g in
    first depth in_parameter e rest a here l.behind l.spelled l.within l.grows
first depth in_parameter e rest (form.Either' p a q b) here behind is w g =
    let l = left_first depth in_parameter e rest joint.Or p a q b here behind is w g in
    first depth in_parameter e rest a here l.behind l.spelled l.within l.grows
first depth in_parameter e rest a here behind is w g =
    record { part = a; behind = behind; operand = refl; spelled = is; within = w; grows = g }

-- ---- where it ends

below_more : (o : Option Joint) (k m : ℕ) → k ≤ m → is_below o k ≡ true → is_below o m ≡ true
below_more None k m h e = refl
below_more (Some j) k m h e = grind (arith, nat_tests)

pub stops_more : (rest : List Token) (k m : ℕ) → k ≤ m → stops k rest ≡ true → stops m rest ≡ true
stops_more [] k m h e = refl
stops_more (t ∷ ts) k m h e = below_more (joint_of t.piece) k m h e

pub joint_back : (j : Joint) → joint_of (joint_piece j) ≡ Some j
joint_back joint.Or = refl
joint_back joint.And = refl
joint_back (joint.Compared comparison.Same) = refl
joint_back (joint.Compared c) = refl
joint_back (joint.Between operator.Plus) = refl
joint_back (joint.Between o) = refl

-- what stands first joins what the piece joins
pub joint_of_first : (p : Piece) (here next : List Token) (k : ℕ) → after_piece p (Some here) ≡ Some next → stops k here ≡ is_below (joint_of p) k
joint_of_first p here next k is =
    let t = taken p here next is in
    ap (stops k) t.here_is ∙ ap (λ (x : Piece). is_below (joint_of x) k) t.piece_so

stops_at : (j : Joint) (here next : List Token) (k : ℕ) → after_piece (joint_piece j) (Some here) ≡ Some next → binding_of j < k → stops k here ≡ true
stops_at j here next k is h =
    let t : is_below (Some j) k ≡ true = grind (arith, nat_tests) in
    joint_of_first (joint_piece j) here next k is ∙ (ap (λ (o : Option Joint). is_below o k) (joint_back j) ∙ t)

-- where the piece joins nothing, nothing is joined
pub stops_before : (p : Piece) (here next : List Token) (k : ℕ) → after_piece p (Some here) ≡ Some next → joint_of p ≡ None → stops k here ≡ true
stops_before p here next k is none = joint_of_first p here next k is ∙ ap (λ (o : Option Joint). is_below o k) none

pub grown_close : (depth : ℕ) (in_parameter : Bool) (e : Expression) (rest : List Token) (a : Expression) (here : List Token) → Becomes depth in_parameter e rest a here → closeness e ≤ closeness a
grown_close depth in_parameter e rest a here (done is ends) = omega (arith, ap closeness is)
grown_close depth in_parameter e rest a here (more part g) =
    omega (arith, grown_close depth in_parameter e rest (whole part) part.behind g, closeness_joined part.by part.left_place a part.right_place part.right, left_of_joint part.by a part.right part.joins)

-- no joint follows that binds closer than what was read
pub grown_stops : (depth : ℕ) (in_parameter : Bool) (e : Expression) (rest : List Token) (a : Expression) (here : List Token) (least : ℕ)
    → Becomes depth in_parameter e rest a here → least ≤ closeness e → stops least rest ≡ true → stops (closeness a + 1) here ≡ true
grown_stops depth in_parameter e rest a here least (done is ends) h stop =
    subst (λ (x : List Token). stops (closeness a + 1) x ≡ true) (sym ends) (stops_more rest least (closeness a + 1) (omega (arith, ap closeness is)) stop)
grown_stops depth in_parameter e rest a here least (more part g) h stop =
    stops_at part.by here part.next (closeness a + 1) part.begins (omega (arith, left_of_joint part.by a part.right part.joins))

pub operand_stops : (depth : ℕ) (in_parameter : Bool) (e : Expression) (rest : List Token) (a : Expression) (here : List Token) (least : ℕ)
    → Becomes depth in_parameter e rest a here → is_operand a ≡ true → least ≤ closeness e → stops least rest ≡ true → stops (closeness a) here ≡ true
operand_stops depth in_parameter e rest a here least (done is ends) f h stop =
    subst (λ (x : List Token). stops (closeness a) x ≡ true) (sym ends) (stops_more rest least (closeness a) (omega (arith, ap closeness is)) stop)
operand_stops depth in_parameter e rest a here least (more part g) f h stop =
    stops_at part.by here part.next (closeness a) part.begins (operand_of_joint part.by a part.right f part.joins)

-- where a number has to stand, its first part is one
pub grown_number : (depth : ℕ) (in_parameter : Bool) (e : Expression) (rest : List Token) (a : Expression) (here : List Token)
    → Becomes depth in_parameter e rest a here → 4 ≤ closeness e → is_condition e ≡ false → is_condition a ≡ false
grown_number depth in_parameter e rest a here (done is ends) h number = ap is_condition is ∙ number
grown_number depth in_parameter e rest a here (more part g) h number =
    left_number part.by a part.right part.joins
    (omega (arith, grown_close depth in_parameter e rest (whole part) part.behind g, closeness_joined part.by part.left_place a part.right_place part.right))

-- ---- how close what fits stands together

pub least_close : (a : Expression) (k : ℕ) → k ≤ 4 → k ≤ binding a → k ≤ closeness a
unfolding scale
least_close a k few h = omega (arith, scaled a)

pub factor_close : (a : Expression) → 8 ≤ binding a → 6 ≤ closeness a
unfolding scale
factor_close a h = omega (arith, scaled a)

-- what is no condition stands together as numbers do
pub number_close : (a : Expression) → is_condition a ≡ false → 4 ≤ closeness a
number_close (form.Binary' operator.Plus p a q b) e = omega arith
number_close (form.Binary' o p a q b) e = omega arith
number_close (form.Compare' c p a q b) e = absurd (false≢true (sym e))
number_close (form.Both' p a q b) e = absurd (false≢true (sym e))
number_close (form.Either' p a q b) e = absurd (false≢true (sym e))
number_close (form.Negation' p a) e = absurd (false≢true (sym e))
number_close a e = omega arith
