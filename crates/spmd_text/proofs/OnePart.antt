-- Parts of a text, two of which stand at one place: they are one, where what comes behind both tells
-- that they are over.
use Rattle.std.proofs.Common.{◌≡◌, ℕ, Bool, true, false, nat_eq, List, [], ◌∷◌, Option, Some, None, refl, ap, sym, ◌∙◌}
use Rattle.std.proofs.lemmas.Bool.{eqb-true, false≢true}
use Rattle.std.proofs.lemmas.Option.{same_Some}
use Rattle.spmd_tree.specs.declared.tree.Expression.{Expression}
use Rattle.spmd_text.specs.declared.piece.Word.{Word}
use Rattle.spmd_text.specs.declared.piece.Piece.{Piece}
use Rattle.spmd_text.specs.declared.piece.Piece.TheVariants as piece
use Rattle.spmd_text.specs.declared.piece.Token.{Token}
use Rattle.spmd_text.specs.Spelling.{Rest, after_piece, after_condition, after_optional, after_start, after_value, fits_binding, on_line, only}
use Rattle.spmd_text.proofs.NoStar.{only_left}
use Rattle.spmd_text.proofs.Pieces.{taken}
use Rattle.spmd_text.proofs.Strict.{expression_strict, only_none, value_strict}
use Rattle.spmd_tree.specs.Plain.{Place, put_expression, put_optional}
use Rattle.spmd_text.proofs.OneExpression.{between_parts, next, next_is, one_expression, quiet}

abbrev pub any : Piece → Bool
any p = true

-- What stands behind a part: nothing behind nothing; and where the piece behind it passes a test,
-- so does the one that it begins with.
pub record Flows (f : Rest → Rest) (before behind : Piece → Bool) : Type 0 where
  pub strict : f None ≡ None
  pub first : (ts rest : List Token) → f (Some ts) ≡ Some rest → behind (next rest) ≡ true → before (next ts) ≡ true

-- Two parts that stand at one place, with such a piece behind each, are the same in this, and end at
-- one place.
pub record Meets (f g : Rest → Rest) (before behind : Piece → Bool) (Same : Type 0) : Type 0 where
  pub left : Flows f before behind
  pub right : Flows g before behind
  pub one : (ts r s : List Token) → f (Some ts) ≡ Some r → g (Some ts) ≡ Some s → behind (next r) ≡ true → behind (next s) ≡ true → Same × (r ≡ s)

-- ---- one part, and then another

pub then_flows : {f g : Rest → Rest} {a b c : Piece → Bool} → Flows f a b → Flows g b c → Flows (λ z. g (f z)) a c
then_flows {f} {g} x y = record {
  strict = ap g x.strict ∙ y.strict;
  first = λ ts rest e h.
      let m = between_parts g y.strict (f (Some ts)) rest e in
      x.first ts m.here m.is (y.first m.here rest m.so h);
}

-- the second parts are the same where the first ones are
pub then_given : {f f' g g' : Rest → Rest} {a b c : Piece → Bool} {S T : Type 0} → Meets f f' a b S → Flows g b c → Flows g' b c → (S → Meets g g' b c T)
    → Meets (λ z. g (f z)) (λ z. g' (f' z)) a c (S × T)
then_given {f} {f'} {g} {g'} {a} {b} {c} {S} {T} x y y' so = record {
  left = then_flows x.left y;
  right = then_flows x.right y';
  one = λ ts r s e e' h h'.
      let m = between_parts g y.strict (f (Some ts)) r e in
      let m' = between_parts g' y'.strict (f' (Some ts)) s e' in
      let first = x.one ts m.here m'.here m.is m'.is (y.first m.here r m.so h) (y'.first m'.here s m'.so h') in
      let second = (so first.0).one m.here r s m.so (ap (λ (l : List Token). g' (Some l)) first.1 ∙ m'.so) h h' in
      ((first.0, second.0), second.1);
}

pub then_meet : {f f' g g' : Rest → Rest} {a b c : Piece → Bool} {S T : Type 0} → Meets f f' a b S → Meets g g' b c T → Meets (λ z. g (f z)) (λ z. g' (f' z)) a c (S × T)
then_meet x y = then_given x y.left y.right (λ s. y)

pub flows_as : {f : Rest → Rest} {a b c d : Piece → Bool} → ((p : Piece) → a p ≡ true → c p ≡ true) → ((p : Piece) → d p ≡ true → b p ≡ true) → Flows f a b → Flows f c d
flows_as before behind x = record {
  strict = x.strict;
  first = λ ts rest e h. before (next ts) (x.first ts rest e (behind (next rest) h));
}

pub meet_as : {f g : Rest → Rest} {a b : Piece → Bool} {S T : Type 0} → (S → T) → Meets f g a b S → Meets f g a b T
meet_as so x = record {
  left = x.left;
  right = x.right;
  one = λ ts r s e e' h h'. let both = x.one ts r s e e' h h' in (so both.0, both.1);
}

pub meet_within : {f g : Rest → Rest} {a b c d : Piece → Bool} {S : Type 0} → ((p : Piece) → a p ≡ true → c p ≡ true) → ((p : Piece) → d p ≡ true → b p ≡ true) → Meets f g a b S → Meets f g c d S
meet_within before behind x = record {
  left = flows_as before behind x.left;
  right = flows_as before behind x.right;
  one = λ ts r s e e' h h'. x.one ts r s e e' (behind (next r) h) (behind (next s) h');
}

pub nothing_flows : (a b : Piece → Bool) → ((p : Piece) → b p ≡ true → a p ≡ true) → Flows (λ z. z) a b
nothing_flows a b so = record { strict = refl; first = λ ts rest e h. so (next ts) (ap (λ (l : List Token). b (next l)) (same_Some ts rest e) ∙ h) }

pub nothing_meets : (a b : Piece → Bool) → ((p : Piece) → b p ≡ true → a p ≡ true) → Meets (λ z. z) (λ z. z) a b (Unit {0})
nothing_meets a b so = record {
  left = nothing_flows a b so;
  right = nothing_flows a b so;
  one = λ ts r s e e' h h'. (tt, sym (same_Some ts r e) ∙ same_Some ts s e');
}

-- parts of which one is there at most
pub never_meet : {f g : Rest → Rest} {a b : Piece → Bool} {S : Type 0} → Flows f a b → Flows g a b
    → ((ts r s : List Token) → f (Some ts) ≡ Some r → g (Some ts) ≡ Some s → b (next r) ≡ true → b (next s) ≡ true → ⊥) → Meets f g a b S
never_meet x y never = record { left = x; right = y; one = λ ts r s e e' h h'. absurd (never ts r s e e' h h') }

-- ---- pieces

pub piece_flows : (p : Piece) (before : Piece → Bool) → before p ≡ true → Flows (after_piece p) before any
piece_flows p before so = record { strict = refl; first = λ ts rest e h. ap before (next_is p ts rest e) ∙ so }

behind_first : List Token → List Token
behind_first [] = []
behind_first (t ∷ ts) = ts

pub pieces_meet : (p q : Piece) (before : Piece → Bool) → before p ≡ true → before q ≡ true → Meets (after_piece p) (after_piece q) before any (p ≡ q)
unfolding behind_first
pieces_meet p q before so so' = record {
  left = piece_flows p before so;
  right = piece_flows q before so';
  one = λ ts r s e e' h h'.
      let same : Some r ≡ Some s = ap (λ (l : List Token). Some (behind_first l)) (sym (taken p ts r e).here_is ∙ (taken q ts s e').here_is) in
      (sym (next_is p ts r e) ∙ next_is q ts s e', same_Some r s same);
}

pub piece_meets : (p : Piece) (before : Piece → Bool) → before p ≡ true → Meets (after_piece p) (after_piece p) before any (p ≡ p)
piece_meets p before so = pieces_meet p p before so so

line_left : (line : ℕ) (ts rest : List Token) → on_line line (Some ts) ≡ Some rest → (ts ≡ rest) × ((k : ℕ) (r : List Token) → on_line k (Some ts) ≡ Some r → line ≡ k)
line_left line [] rest e = absurd (let never : None ≡ Some rest = e in cc)
line_left line (t ∷ ts) rest e =
    let o = only_left (nat_eq t.line line) (Some (t ∷ ts)) rest e in
    (same_Some (t ∷ ts) rest o.1, λ k r f. sym (eqb-true t.line line o.0) ∙ eqb-true t.line k (only_left (nat_eq t.line k) (Some (t ∷ ts)) r f).0)

line_flows : (line : ℕ) (a : Piece → Bool) → Flows (on_line line) a a
line_flows line a = record { strict = refl; first = λ ts rest e h. ap (λ (l : List Token). a (next l)) (line_left line ts rest e).0 ∙ h }

pub lines_meet : (line k : ℕ) (a : Piece → Bool) → Meets (on_line line) (on_line k) a a (line ≡ k)
lines_meet line k a = record {
  left = line_flows line a;
  right = line_flows k a;
  one = λ ts r s e e' h h'. ((line_left line ts r e).1 k s e', sym (line_left line ts r e).0 ∙ (line_left k ts s e').0);
}

pub starts_meet : (line k : ℕ) (w v : Word) (before : Piece → Bool) → before (piece.Word w) ≡ true → before (piece.Word v) ≡ true
    → Meets (after_start line w) (after_start k v) before any ((line ≡ k) × (piece.Word w ≡ piece.Word v))
starts_meet line k w v before so so' = then_meet (lines_meet line k before) (pieces_meet (piece.Word w) (piece.Word v) before so so')

-- ---- expressions

pub value_flows : (e : Expression) → Flows (after_value e) any quiet
value_flows e = record { strict = value_strict e; first = λ ts rest f h. refl }

pub values_meet : (n : Place) (e f : Expression) → Meets (after_value e) (after_value f) any quiet (put_expression n e ≡ put_expression n f)
values_meet n e f = record {
  left = value_flows e;
  right = value_flows f;
  one = λ ts r s x y h h'. one_expression n e f ts r s (only_left _ _ r x).1 (only_left _ _ s y).1 h h';
}

condition_flows : (e : Expression) → Flows (after_condition e) any quiet
condition_flows e = record { strict = ap (λ (z : Rest). only (fits_binding e 0 true) z) (expression_strict e) ∙ only_none (fits_binding e 0 true); first = λ ts rest f h. refl }

pub conditions_meet : (n : Place) (e f : Expression) → Meets (after_condition e) (after_condition f) any quiet (put_expression n e ≡ put_expression n f)
conditions_meet n e f = record {
  left = condition_flows e;
  right = condition_flows f;
  one = λ ts r s x y h h'. one_expression n e f ts r s (only_left _ _ r x).1 (only_left _ _ s y).1 h h';
}

-- ---- a value that may be left out, with the piece before it

optional_flows : (p : Piece) (e : Option Expression) (before behind : Piece → Bool) → before p ≡ true → ((q : Piece) → behind q ≡ true → before q ≡ true)
    → ((q : Piece) → behind q ≡ true → quiet q ≡ true) → Flows (after_optional p e) before behind
optional_flows p None before behind so back ends = nothing_flows before behind back
optional_flows p (Some e) before behind so back ends = flows_as (λ q h. h) ends (then_flows (piece_flows p before so) (value_flows e))

-- the piece doesn't come behind what has it not
pub not_behind : (p : Piece) (g : Rest → Rest) (behind : Piece → Bool) → behind p ≡ false → g None ≡ None → (ts r s : List Token) → Some ts ≡ Some r
    → g (after_piece p (Some ts)) ≡ Some s → behind (next r) ≡ true → ⊥
not_behind p g behind other strict ts r s e e' h =
    let m = between_parts g strict (after_piece p (Some ts)) s e' in
    false≢true (sym other ∙ (ap behind (sym (next_is p ts m.here m.is)) ∙ (ap (λ (l : List Token). behind (next l)) (same_Some ts r e) ∙ h)))

pub optionals_meet : (n : Place) (p : Piece) (c d : Option Expression) (before behind : Piece → Bool) → before p ≡ true → behind p ≡ false
    → ((q : Piece) → behind q ≡ true → before q ≡ true) → ((q : Piece) → behind q ≡ true → quiet q ≡ true)
    → Meets (after_optional p c) (after_optional p d) before behind (put_optional n c ≡ put_optional n d)
optionals_meet n p None None before behind so other back ends = meet_as (λ t. refl) (nothing_meets before behind back)
optionals_meet n p (Some e) (Some f) before behind so other back ends =
    meet_as (λ t. ap Some t.1) (meet_within (λ q h. h) ends (then_meet (piece_meets p before so) (values_meet n e f)))
optionals_meet n p None (Some f) before behind so other back ends =
    never_meet (optional_flows p None before behind so back ends) (optional_flows p (Some f) before behind so back ends)
    (λ ts r s e e' h h'. not_behind p (after_value f) behind other (value_strict f) ts r s e e' h)
optionals_meet n p (Some f) None before behind so other back ends =
    never_meet (optional_flows p (Some f) before behind so back ends) (optional_flows p None before behind so back ends)
    (λ ts r s e e' h h'. not_behind p (after_value f) behind other (value_strict f) ts s r e' e h')
