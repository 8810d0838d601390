-- An expression is read in one way: a machine with a stack reads it from the left, and ends with each
-- tree that is written there. Nothing of the reader is cited.
use Rattle.std.proofs.Common.{◌≡◌, ℕ, ◌<◌, ◌≤◌, Bool, true, false, ◌&&◌, not, nat_le, if◌then◌else◌, List, [], ◌∷◌, Option, Some, None, refl, ap, sym, ◌∙◌, arith}
use Rattle.std.proofs.lemmas.Bool.{and_parts, false≢true, leb-true, lt-leb}
use Rattle.std.proofs.lemmas.Bool.Decides.{nat_tests}
use Rattle.spmd_tree.specs.declared.tree.Operator.{Operator}
use Rattle.spmd_tree.specs.declared.tree.Operator.TheVariants as operator
use Rattle.spmd_tree.specs.declared.tree.Comparison.{Comparison}
use Rattle.spmd_tree.specs.declared.tree.Comparison.TheVariants as comparison
use Rattle.spmd_tree.specs.declared.tree.Expression.{Expression}
use Rattle.spmd_tree.specs.declared.tree.Expression.TheVariants as form
use Rattle.spmd_text.specs.declared.piece.Word.TheVariants as word
use Rattle.spmd_text.specs.declared.piece.Piece.{Piece}
use Rattle.spmd_text.specs.declared.piece.Piece.TheVariants as piece
use Rattle.spmd_text.specs.declared.piece.Token.{Token}
use Rattle.spmd_text.specs.Spelling.{Rest, after_piece, after_expression, binding, comparison_piece, fits_binding, is_condition, left_of, operator_binding, operator_piece, right_of, same}
use Rattle.spmd_text.proofs.NoStar.{only_left}
use Rattle.spmd_text.proofs.Pieces.{taken}
use Rattle.spmd_text.proofs.Strict.{expression_strict}
use Rattle.spmd_tree.specs.Plain.{Place, put_expression}

-- ---- what joins two expressions

pub data Joint : Type 0 where
  or_joint : Joint
  and_joint : Joint
  compared : Comparison → Joint
  between : Operator → Joint

abbrev pub joint_of : Piece → Option Joint
joint_of (piece.Word word.Or) = Some or_joint
joint_of (piece.Word word.And) = Some and_joint
joint_of (piece.Word word.Div) = Some (between operator.Quotient)
joint_of (piece.Word word.Mod) = Some (between operator.Remainder)
joint_of (piece.Word word.Shl) = Some (between operator.Left)
joint_of (piece.Word word.Shr) = Some (between operator.Right)
joint_of (piece.Word word.Xor) = Some (between operator.Exclusive)
joint_of piece.Same = Some (compared comparison.Same)
joint_of piece.Other = Some (compared comparison.Other)
joint_of piece.Below = Some (compared comparison.Below)
joint_of piece.UpTo = Some (compared comparison.UpTo)
joint_of piece.Above = Some (compared comparison.Above)
joint_of piece.From = Some (compared comparison.From)
joint_of piece.Plus = Some (between operator.Plus)
joint_of piece.Minus = Some (between operator.Minus)
joint_of piece.Star = Some (between operator.Times)
joint_of _ = None

abbrev joined : Place → Joint → Expression → Expression → Expression
joined n or_joint a b = form.Either' n a n b
joined n and_joint a b = form.Both' n a n b
joined n (compared c) a b = form.Compare' c n a n b
joined n (between o) a b = form.Binary' o n a n b

-- how close it binds, and what stands left and right of it at least
abbrev closeness : Joint → ℕ
closeness or_joint = 0
closeness and_joint = 1
closeness (compared c) = 3
closeness (between o) = operator_binding o

abbrev left_least : Joint → ℕ
left_least or_joint = 0
left_least and_joint = 1
left_least (compared c) = 4
left_least (between o) = left_of o

abbrev right_least : Joint → ℕ
right_least or_joint = 1
right_least and_joint = 2
right_least (compared c) = 4
right_least (between o) = right_of o

abbrev level : Option Joint → ℕ
level None = 0
level (Some j) = closeness j

left_closer : (j : Joint) → closeness j ≤ left_least j
left_closer (between operator.Plus) = omega arith
left_closer (between o) = omega arith
left_closer j = omega arith

right_closer : (j : Joint) → closeness j < right_least j
right_closer (between operator.Plus) = omega arith
right_closer (between o) = omega arith
right_closer j = omega arith

-- none binds as close as `not` or a choice does, or so close as a minus
not_two : (j : Option Joint) → level j ≤ 2 → level j < 2
not_two (Some (between operator.Plus)) h = omega arith
not_two (Some (between o)) h = omega arith
not_two (Some (compared c)) h = omega arith
not_two j h = omega arith

not_four : (j : Option Joint) → level j ≤ 4 → level j < 4
not_four (Some (between operator.Plus)) h = omega arith
not_four (Some (between o)) h = omega arith
not_four (Some (compared c)) h = omega arith
not_four j h = omega arith

below_eight : (j : Option Joint) → level j < 8
below_eight (Some (between operator.Plus)) = omega arith
below_eight (Some (between o)) = omega arith
below_eight (Some (compared c)) = omega arith
below_eight j = omega arith

operator_joint : (o : Operator) → joint_of (operator_piece o) ≡ Some (between o)
operator_joint operator.Plus = refl
operator_joint o = refl

comparison_joint : (c : Comparison) → joint_of (comparison_piece c) ≡ Some (compared c)
comparison_joint comparison.Same = refl
comparison_joint c = refl

-- ---- the machine

-- what waits for an expression: what makes one of it that binds at least so close, or a bracket
data Frame : Type 0 where
  pending : ℕ → (Expression → Expression) → Frame
  opened : Frame
  asked : Frame
  given : Expression → Frame

data State : Type 0 where
  expects : List Frame → State
  has : List Frame → Expression → State

data Next : Type 0 where
  goes : State → Next
  stops : Expression → Next
  fails : Next

record Closed : Type 0 where
  frames : List Frame
  tree : Expression

-- what waits for something closer than what comes next is made, one after another
abbrev close : ℕ → List Frame → Expression → Closed
close n [] x = record { frames = []; tree = x }
close n (pending least make ∷ fs) x = if nat_le least n then record { frames = pending least make ∷ fs; tree = x } else close n fs (make x)
close n (f ∷ fs) x = record { frames = f ∷ fs; tree = x }

abbrev first_step : Place → Piece → List Frame → Next
first_step n (piece.Number m) fs = goes (has fs (form.Literal m))
first_step n (piece.Name k) fs = goes (has fs (form.Named k))
first_step n (piece.Word word.Null) fs = goes (has fs form.Null)
first_step n (piece.Word word.Rank) fs = goes (has fs form.Rank)
first_step n (piece.Word word.Size) fs = goes (has fs form.Size)
first_step n piece.Minus fs = goes (expects (pending 8 (λ x. form.Negative' n x) ∷ fs))
first_step n (piece.Word word.Not) fs = goes (expects (pending 2 (λ x. form.Negation' n x) ∷ fs))
first_step n piece.Open fs = goes (expects (opened ∷ fs))
first_step n (piece.Word word.If) fs = goes (expects (asked ∷ fs))
first_step n _ fs = fails

-- a piece that closes a bracket; all others end what is read
abbrev bracket_step : Place → List Frame → Piece → Expression → Next
bracket_step n [] p x = stops x
bracket_step n (opened ∷ fs) piece.Close x = goes (has fs (form.Grouped' n x))
bracket_step n (asked ∷ fs) (piece.Word word.Then) x = goes (expects (given x ∷ fs))
bracket_step n (given c ∷ fs) (piece.Word word.Else) x = goes (expects (pending 4 (λ b. form.Choice' n c n x n b) ∷ fs))
bracket_step n _ p x = stops x

abbrev joint_step : Place → Option Joint → Piece → Closed → Next
joint_step n None p c = bracket_step n c.frames p c.tree
joint_step n (Some j) p c = goes (expects (pending (right_least j) (joined n j c.tree) ∷ c.frames))

abbrev step : Place → Piece → State → Next
step n p (expects fs) = first_step n p fs
step n p (has fs x) = joint_step n (joint_of p) p (close (level (joint_of p)) fs x)

-- an expression, and what is left behind it
record Found : Type 0 where
  tree : Expression
  rest : List Token

abbrev on_next : Next → List Token → (State → Option Found) → Option Found
on_next (goes s) here go = go s
on_next (stops x) here go = Some (record { tree = x; rest = here })
on_next fails here go = None

run : Place → List Token → State → Option Found
run n [] (expects fs) = None
run n [] (has fs x) = Some (record { tree = (close 0 fs x).tree; rest = [] })
run n (t ∷ ts) s = on_next (step n t.piece s) (t ∷ ts) (λ u. run n ts u)

-- ---- what is left between two parts

-- these pieces are left before the second part, behind which the rest is
pub record Between (f : Rest → Rest) (before : Rest) (rest : List Token) : Type 0 where
  pub here : List Token
  pub is : before ≡ Some here
  pub so : f (Some here) ≡ Some rest

pub between_parts : (f : Rest → Rest) → f None ≡ None → (before : Rest) (rest : List Token) → f before ≡ Some rest → Between f before rest
between_parts f strict None rest e = absurd (none_some (sym strict ∙ e))
  where
    none_some : None ≡ Some rest → ⊥
    none_some h = cc
between_parts f strict (Some here) rest e = record { here = here; is = refl; so = e }

-- ---- the piece that comes next

abbrev pub next : List Token → Piece
next [] = piece.TextEnd
next (t ∷ ts) = t.piece

abbrev ahead : List Token → ℕ
ahead ts = level (joint_of (next ts))

pub next_is : (p : Piece) (ts rest : List Token) → after_piece p (Some ts) ≡ Some rest → next ts ≡ p
next_is p ts rest e = let t = taken p ts rest e in ap next t.here_is ∙ t.piece_so

ahead_is : (p : Piece) (ts rest : List Token) → after_piece p (Some ts) ≡ Some rest → ahead ts ≡ level (joint_of p)
ahead_is p ts rest e = ap (λ (q : Piece). level (joint_of q)) (next_is p ts rest e)

-- ---- steps

run_goes : (n : Place) (p : Piece) (ts rest : List Token) (s u : State) → after_piece p (Some ts) ≡ Some rest → step n p s ≡ goes u → run n ts s ≡ run n rest u
unfolding run
run_goes n p ts rest s u e is =
    let t = taken p ts rest e in
    ap (λ (l : List Token). run n l s) t.here_is
    ∙ (ap (λ (q : Piece). on_next (step n q s) (t.token ∷ rest) (λ v. run n rest v)) t.piece_so
    ∙ ap (λ (x : Next). on_next x (t.token ∷ rest) (λ v. run n rest v)) is)

-- nothing waits for something closer
OpenFor : List Frame → ℕ → Type 0
OpenFor (pending least make ∷ fs) n = least ≤ n
OpenFor _ n = Unit {0}

open_more : (fs : List Frame) (k m : ℕ) → k ≤ m → OpenFor fs k → OpenFor fs m
unfolding OpenFor
open_more [] k m h o = tt
open_more (pending least make ∷ fs) k m h o = omega (arith, h, o)
open_more (f ∷ fs) k m h o = tt

chosen : (b : Bool) (x y : Closed) → b ≡ true → (if b then x else y) ≡ x
chosen b x y e = ap (λ (c : Bool). if c then x else y) e

not_chosen : (b : Bool) (x y : Closed) → b ≡ false → (if b then x else y) ≡ y
not_chosen b x y e = ap (λ (c : Bool). if c then x else y) e

stays_open : (k : ℕ) (fs : List Frame) (x : Expression) → OpenFor fs k → close k fs x ≡ record { frames = fs; tree = x }
unfolding OpenFor
stays_open k [] x o = refl
stays_open k (pending least make ∷ fs) x o = let h : least ≤ k = o in let t : nat_le least k ≡ true = grind (arith, nat_tests) in chosen (nat_le least k) _ _ t
stays_open k (f ∷ fs) x o = refl

joint_goes : (n : Place) (p : Piece) (j : Joint) (fs : List Frame) (x : Expression) → joint_of p ≡ Some j → OpenFor fs (closeness j)
    → step n p (has fs x) ≡ goes (expects (pending (right_least j) (joined n j x) ∷ fs))
joint_goes n p j fs x is o =
    ap (λ (i : Option Joint). joint_step n i p (close (level i) fs x)) is
    ∙ ap (joint_step n (Some j) p) (stays_open (closeness j) fs x o)

-- where what comes next is not close enough for what waits, that is made
shut : (n : Place) (rest : List Token) (least : ℕ) (make : Expression → Expression) (fs : List Frame) (x : Expression) → ahead rest < least
    → run n rest (has (pending least make ∷ fs) x) ≡ run n rest (has fs (make x))
unfolding run
shut n [] least make fs x h =
    let t : nat_le least 0 ≡ false = lt-leb least 0 h in
    ap (λ (c : Closed). Some (record { tree = c.tree; rest = [] })) (not_chosen (nat_le least 0) (record { frames = pending least make ∷ fs; tree = x }) (close 0 fs (make x)) t)
shut n (t ∷ ts) least make fs x h =
    let k = level (joint_of t.piece) in
    let f : nat_le least k ≡ false = lt-leb least k h in
    ap (λ (c : Closed). on_next (joint_step n (joint_of t.piece) t.piece c) (t ∷ ts) (λ u. run n ts u))
    (not_chosen (nat_le least k) (record { frames = pending least make ∷ fs; tree = x }) (close k fs (make x)) f)

-- ---- an expression

-- the machine reads it: nothing that waits is closer, and nothing closer comes behind it
Reads : Place → Expression → Type 0
Reads n e =
    (fs : List Frame) (ts rest : List Token) → after_expression e (Some ts) ≡ Some rest → OpenFor fs (binding e) → ahead rest ≤ binding e
    → run n ts (expects fs) ≡ run n rest (has fs (put_expression n e))

fits_least : (e : Expression) (least : ℕ) (condition : Bool) → fits_binding e least condition ≡ true → least ≤ binding e
fits_least e least condition h = leb-true least (binding e) (and_parts (nat_le least (binding e)) (same condition (is_condition e)) h).0

joint_reads : (n : Place) (p : Piece) (j : Joint) (a b : Expression) (fs : List Frame) (ts rest : List Token) → joint_of p ≡ Some j → left_least j ≤ binding a → right_least j ≤ binding b
    → after_expression b (after_piece p (after_expression a (Some ts))) ≡ Some rest → OpenFor fs (closeness j) → ahead rest ≤ closeness j → Reads n a → Reads n b
    → run n ts (expects fs) ≡ run n rest (has fs (joined n j (put_expression n a) (put_expression n b)))
unfolding Reads OpenFor
joint_reads n p j a b fs ts rest is la lb e o h one two =
    let m = between_parts (after_expression b) (expression_strict b) (after_piece p (after_expression a (Some ts))) rest e in
    let k = between_parts (after_piece p) refl (after_expression a (Some ts)) m.here m.is in
    let low : ahead k.here ≡ closeness j = ahead_is p k.here m.here k.so ∙ ap level is in
    one fs ts k.here k.is (open_more fs (closeness j) (binding a) (omega (arith, left_closer j, la)) o) (omega (arith, low, left_closer j, la))
    ∙ (run_goes n p k.here m.here (has fs (put_expression n a)) _ k.so (joint_goes n p j fs (put_expression n a) is o)
    ∙ (two (pending (right_least j) (joined n j (put_expression n a)) ∷ fs) m.here rest m.so lb (omega (arith, h, right_closer j, lb))
    ∙ shut n rest (right_least j) (joined n j (put_expression n a)) fs (put_expression n b) (omega (arith, h, right_closer j))))

prefix_reads : (n : Place) (p : Piece) (least : ℕ) (make : Expression → Expression) (a : Expression) (fs : List Frame) (ts rest : List Token)
    → first_step n p fs ≡ goes (expects (pending least make ∷ fs)) → least ≤ binding a → after_expression a (after_piece p (Some ts)) ≡ Some rest → ahead rest < least → Reads n a
    → run n ts (expects fs) ≡ run n rest (has fs (make (put_expression n a)))
unfolding Reads OpenFor
prefix_reads n p least make a fs ts rest is low e h one =
    let m = between_parts (after_expression a) (expression_strict a) (after_piece p (Some ts)) rest e in
    run_goes n p ts m.here (expects fs) _ m.is is
    ∙ (one (pending least make ∷ fs) m.here rest m.so low (omega (arith, h, low))
    ∙ shut n rest least make fs (put_expression n a) h)

grouped_reads : (n : Place) (a : Expression) (fs : List Frame) (ts rest : List Token) → after_piece piece.Close (after_expression a (after_piece piece.Open (Some ts))) ≡ Some rest → Reads n a
    → run n ts (expects fs) ≡ run n rest (has fs (form.Grouped' n (put_expression n a)))
unfolding Reads OpenFor
grouped_reads n a fs ts rest e one =
    let m = between_parts (after_piece piece.Close) refl (after_expression a (after_piece piece.Open (Some ts))) rest e in
    let k = between_parts (after_expression a) (expression_strict a) (after_piece piece.Open (Some ts)) m.here m.is in
    let low = ahead_is piece.Close m.here rest m.so in
    run_goes n piece.Open ts k.here (expects fs) (expects (opened ∷ fs)) k.is refl
    ∙ (one (opened ∷ fs) k.here m.here k.so tt (omega (arith, low))
    ∙ run_goes n piece.Close m.here rest (has (opened ∷ fs) (put_expression n a)) (has fs (form.Grouped' n (put_expression n a))) m.so refl)

choice_goes : (n : Place) (c a b : Expression) (fs : List Frame) (ts s1 s2 s3 s4 s5 rest : List Token) → after_piece (piece.Word word.If) (Some ts) ≡ Some s1 → after_expression c (Some s1) ≡ Some s2
    → after_piece (piece.Word word.Then) (Some s2) ≡ Some s3 → after_expression a (Some s3) ≡ Some s4 → after_piece (piece.Word word.Else) (Some s4) ≡ Some s5 → after_expression b (Some s5) ≡ Some rest
    → 4 ≤ binding b → ahead rest ≤ 4 → Reads n c → Reads n a → Reads n b
    → run n ts (expects fs) ≡ run n rest (has fs (form.Choice' n (put_expression n c) n (put_expression n a) n (put_expression n b)))
unfolding Reads OpenFor
choice_goes n c a b fs ts s1 s2 s3 s4 s5 rest e1 e2 e3 e4 e5 e6 close h one two three =
    run_goes n (piece.Word word.If) ts s1 (expects fs) (expects (asked ∷ fs)) e1 refl
    ∙ (one (asked ∷ fs) s1 s2 e2 tt (omega (arith, ahead_is (piece.Word word.Then) s2 s3 e3))
    ∙ (run_goes n (piece.Word word.Then) s2 s3 (has (asked ∷ fs) (put_expression n c)) (expects (given (put_expression n c) ∷ fs)) e3 refl
    ∙ (two (given (put_expression n c) ∷ fs) s3 s4 e4 tt (omega (arith, ahead_is (piece.Word word.Else) s4 s5 e5))
    ∙ (run_goes n (piece.Word word.Else) s4 s5 (has (given (put_expression n c) ∷ fs) (put_expression n a)) (expects (pending 4 (λ z. form.Choice' n (put_expression n c) n (put_expression n a) n z) ∷ fs)) e5 refl
    ∙ (three (pending 4 (λ z. form.Choice' n (put_expression n c) n (put_expression n a) n z) ∷ fs) s5 rest e6 close (omega (arith, h, close))
    ∙ shut n rest 4 (λ z. form.Choice' n (put_expression n c) n (put_expression n a) n z) fs (put_expression n b) (not_four (joint_of (next rest)) h))))))

choice_reads : (n : Place) (c a b : Expression) (fs : List Frame) (ts rest : List Token)
    → after_expression b (after_piece (piece.Word word.Else) (after_expression a (after_piece (piece.Word word.Then) (after_expression c (after_piece (piece.Word word.If) (Some ts)))))) ≡ Some rest
    → 4 ≤ binding b → ahead rest ≤ 4 → Reads n c → Reads n a → Reads n b
    → run n ts (expects fs) ≡ run n rest (has fs (form.Choice' n (put_expression n c) n (put_expression n a) n (put_expression n b)))
choice_reads n c a b fs ts rest e close h one two three =
    let s5 = between_parts (after_expression b) (expression_strict b) (after_piece (piece.Word word.Else) (after_expression a (after_piece (piece.Word word.Then) (after_expression c (after_piece (piece.Word word.If) (Some ts)))))) rest e in
    let s4 = between_parts (after_piece (piece.Word word.Else)) refl (after_expression a (after_piece (piece.Word word.Then) (after_expression c (after_piece (piece.Word word.If) (Some ts))))) s5.here s5.is in
    let s3 = between_parts (after_expression a) (expression_strict a) (after_piece (piece.Word word.Then) (after_expression c (after_piece (piece.Word word.If) (Some ts)))) s4.here s4.is in
    let s2 = between_parts (after_piece (piece.Word word.Then)) refl (after_expression c (after_piece (piece.Word word.If) (Some ts))) s3.here s3.is in
    let s1 = between_parts (after_expression c) (expression_strict c) (after_piece (piece.Word word.If) (Some ts)) s2.here s2.is in
    choice_goes n c a b fs ts s1.here s2.here s3.here s4.here s5.here rest s1.is s1.so s2.so s3.so s4.so s5.so close h one two three

reads : (n : Place) (e : Expression) → Reads n e
unfolding Reads
reads n (form.Literal m) fs ts rest e o h = run_goes n (piece.Number m) ts rest (expects fs) (has fs (form.Literal m)) e refl
reads n form.Null fs ts rest e o h = run_goes n (piece.Word word.Null) ts rest (expects fs) (has fs form.Null) e refl
reads n form.Rank fs ts rest e o h = run_goes n (piece.Word word.Rank) ts rest (expects fs) (has fs form.Rank) e refl
reads n form.Size fs ts rest e o h = run_goes n (piece.Word word.Size) ts rest (expects fs) (has fs form.Size) e refl
reads n (form.Named k) fs ts rest e o h = run_goes n (piece.Name k) ts rest (expects fs) (has fs (form.Named k)) e refl
reads n (form.Binary' x p a q b) fs ts rest e o h =
    let parts = only_left _ _ rest e in
    let fit = and_parts (fits_binding a (left_of x) false) (fits_binding b (right_of x) false) parts.0 in
    joint_reads n (operator_piece x) (between x) a b fs ts rest (operator_joint x) (fits_least a (left_of x) false fit.0) (fits_least b (right_of x) false fit.1) parts.1 o h (reads n a) (reads n b)
reads n (form.Compare' c p a q b) fs ts rest e o h =
    let parts = only_left _ _ rest e in
    let fit = and_parts (fits_binding a 4 false) (fits_binding b 4 false) parts.0 in
    joint_reads n (comparison_piece c) (compared c) a b fs ts rest (comparison_joint c) (fits_least a 4 false fit.0) (fits_least b 4 false fit.1) parts.1 o h (reads n a) (reads n b)
reads n (form.Negative' p a) fs ts rest e o h =
    let parts = only_left _ _ rest e in
    prefix_reads n piece.Minus 8 (λ x. form.Negative' n x) a fs ts rest refl (fits_least a 8 false parts.0) parts.1 (below_eight (joint_of (next rest))) (reads n a)
reads n (form.Grouped' p a) fs ts rest e o h = grouped_reads n a fs ts rest e (reads n a)
reads n (form.Negation' p a) fs ts rest e o h =
    let parts = only_left _ _ rest e in
    prefix_reads n (piece.Word word.Not) 2 (λ x. form.Negation' n x) a fs ts rest refl (fits_least a 2 true parts.0) parts.1 (not_two (joint_of (next rest)) h) (reads n a)
reads n (form.Both' p a q b) fs ts rest e o h =
    let parts = only_left _ _ rest e in
    let fit = and_parts (fits_binding a 1 true) (fits_binding b 2 true) parts.0 in
    joint_reads n (piece.Word word.And) and_joint a b fs ts rest refl (fits_least a 1 true fit.0) (fits_least b 2 true fit.1) parts.1 o h (reads n a) (reads n b)
reads n (form.Either' p a q b) fs ts rest e o h =
    let parts = only_left _ _ rest e in
    let fit = and_parts (fits_binding a 0 true) (fits_binding b 1 true) parts.0 in
    joint_reads n (piece.Word word.Or) or_joint a b fs ts rest refl (fits_least a 0 true fit.0) (fits_least b 1 true fit.1) parts.1 o h (reads n a) (reads n b)
reads n (form.Choice' p c q a s b) fs ts rest e o h =
    let parts = only_left _ _ rest e in
    let fit = and_parts (fits_binding c 0 true && fits_binding a 4 false) (fits_binding b 4 false) parts.0 in
    choice_reads n c a b fs ts rest parts.1 (fits_least b 4 false fit.1) h (reads n c) (reads n a) (reads n b)

-- ---- what the machine finds

abbrev joins : Option Joint → Bool
joins None = false
joins (Some j) = true

-- it ends an expression and a label: it joins nothing, and begins no index
abbrev pub quiet : Piece → Bool
quiet piece.OpenIndex = false
quiet p = not (joins (joint_of p))

joins_none : (j : Option Joint) → not (joins j) ≡ true → j ≡ None
joins_none None h = refl
joins_none (Some j) h = absurd (false≢true h)

quiet_none : (p : Piece) → quiet p ≡ true → joint_of p ≡ None
quiet_none piece.OpenIndex h = absurd (false≢true h)
quiet_none p h = joins_none (joint_of p) h

run_ends : (n : Place) (rest : List Token) (x : Expression) → joint_of (next rest) ≡ None → run n rest (has [] x) ≡ Some (record { tree = x; rest = rest })
unfolding run
run_ends n [] x is = refl
run_ends n (t ∷ ts) x is = ap (λ (j : Option Joint). on_next (joint_step n j t.piece (record { frames = []; tree = x })) (t ∷ ts) (λ u. run n ts u)) is

found : (n : Place) (e : Expression) (ts rest : List Token) → after_expression e (Some ts) ≡ Some rest → quiet (next rest) ≡ true
    → run n ts (expects []) ≡ Some (record { tree = put_expression n e; rest = rest })
unfolding Reads OpenFor
found n e ts rest is ends =
    let none = quiet_none (next rest) ends in
    let low : ahead rest ≡ 0 = ap level none in
    reads n e [] ts rest is tt (omega (arith, low)) ∙ run_ends n rest (put_expression n e) none

some_found : (a b : Found) → Some a ≡ Some b → a ≡ b
some_found a b e = ap (λ (o : Option Found). inner o) e
  where
    inner : Option Found → Found
    inner None = a
    inner (Some x) = x

-- Of what stands at one place one expression is read.
pub one_expression : (n : Place) (e f : Expression) (ts r s : List Token) → after_expression e (Some ts) ≡ Some r → after_expression f (Some ts) ≡ Some s
    → quiet (next r) ≡ true → quiet (next s) ≡ true → (put_expression n e ≡ put_expression n f) × (r ≡ s)
one_expression n e f ts r s x y p q =
    let same = some_found _ _ (sym (found n e ts r x p) ∙ found n f ts s y q) in
    (ap (λ (o : Found). o.tree) same, ap (λ (o : Found). o.rest) same)

star_fails : (n : Place) (ts : List Token) → next ts ≡ piece.Star → run n ts (expects []) ≡ None
unfolding run
star_fails n [] e = refl
star_fails n (t ∷ ts) e = ap (λ (p : Piece). on_next (first_step n p []) (t ∷ ts) (λ u. run n ts u)) e

-- No expression begins with a star.
pub no_star : (n : Place) (e : Expression) (ts rest : List Token) → after_expression e (Some ts) ≡ Some rest → quiet (next rest) ≡ true → next ts ≡ piece.Star → ⊥
no_star n e ts rest is ends star =
    none_some (sym (star_fails n ts star) ∙ found n e ts rest is ends)
  where
    none_some : {x : Found} → None ≡ Some x → ⊥
    none_some {x} h = cc
