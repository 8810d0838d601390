-- Trees that differ at most in where their boxes stand.
use Rattle.std.proofs.Common.{◌≡◌, Bool, true, false, Result, Ok, Err, IfOk, refl, ap, sym, subst, ◌∙◌}
use Rattle.spmd_tree.specs.declared.tree.Expression.{Expression}
use Rattle.spmd_tree.specs.declared.tree.Expression.TheVariants as form
use Rattle.spmd_text.specs.Spelling.{is_condition}
use Rattle.spmd_text.specs.declared.joints.Joint.{Joint}
use Rattle.spmd_text.specs.declared.joints.Joint.TheVariants as joint
use Rattle.spmd_text.specs.declared.joints.Prefix.{Prefix}
use Rattle.spmd_text.specs.declared.joints.Prefix.TheVariants as prefix
use Rattle.spmd_text.specs.parts.Joints.{Place, joined_parts}
use Rattle.spmd_text.specs.parts.Growing.{enclosed}
use Rattle.spmd_text.specs.parts.Reading.{Form, binary, choice, compare, negation, both, either, grouped, negative, syntax_form, Alike}

form_condition : Form → Bool
form_condition (compare c a b) = true
form_condition (negation a) = true
form_condition (both a b) = true
form_condition (either a b) = true
form_condition (grouped a) = form_condition a
form_condition _ = false

condition_form : (e : Expression) → is_condition e ≡ form_condition (syntax_form e)
unfolding form_condition
condition_form (form.Grouped' p a) = condition_form a
condition_form e = refl

-- both are conditions, or none is
pub alike_condition : (a b : Expression) → Alike a b → is_condition a ≡ is_condition b
alike_condition a b e = condition_form a ∙ (ap form_condition e ∙ sym (condition_form b))

pub ok_more : {A E : Type 0} (r : Result A E) (P Q : A → Type 0) → ((x : A) → P x → Q x) → IfOk r P → IfOk r Q
ok_more (Ok x) P Q f h = f x h
ok_more (Err e) P Q f h = h

pub alike_joined : (j : Joint) (p : Place) (a : Expression) (q : Place) (b made x y : Expression) (p' q' : Place)
    → made ≡ joined_parts j p a q b → Alike a x → Alike b y → Alike made (joined_parts j p' x q' y)
alike_joined joint.Or p a q b made x y p' q' is e f = ap syntax_form is ∙ (ap (λ t. either t (syntax_form b)) e ∙ ap (either (syntax_form x)) f)
alike_joined joint.And p a q b made x y p' q' is e f = ap syntax_form is ∙ (ap (λ t. both t (syntax_form b)) e ∙ ap (both (syntax_form x)) f)
alike_joined (joint.Compared c) p a q b made x y p' q' is e f = ap syntax_form is ∙ (ap (λ t. compare c t (syntax_form b)) e ∙ ap (compare c (syntax_form x)) f)
alike_joined (joint.Between o) p a q b made x y p' q' is e f = ap syntax_form is ∙ (ap (λ t. binary o t (syntax_form b)) e ∙ ap (binary o (syntax_form x)) f)

pub alike_enclosed : (kind : Prefix) (p : Place) (a made x : Expression) (p' : Place) → made ≡ enclosed kind p a → Alike a x → Alike made (enclosed kind p' x)
alike_enclosed prefix.Not p a made x p' is e = ap syntax_form is ∙ ap negation e
alike_enclosed prefix.Minus p a made x p' is e = ap syntax_form is ∙ ap negative e
alike_enclosed prefix.Parentheses p a made x p' is e = ap syntax_form is ∙ ap grouped e

pub alike_choice : (p : Place) (c : Expression) (q : Place) (a : Expression) (s : Place) (b made c' a' b' : Expression) (p' q' s' : Place)
    → made ≡ form.Choice' p c q a s b → Alike c c' → Alike a a' → Alike b b' → Alike made (form.Choice' p' c' q' a' s' b')
alike_choice p c q a s b made c' a' b' p' q' s' is e f g =
    ap syntax_form is ∙ (ap (λ t. choice t (syntax_form a) (syntax_form b)) e ∙ (ap (λ t. choice (syntax_form c') t (syntax_form b)) f ∙ ap (choice (syntax_form c') (syntax_form a')) g))

pub ok_so : {A E : Type 0} (r : Result A E) (x : A) (P : A → Type 0) → r ≡ Ok x → IfOk r P → P x
ok_so (Ok y) x P is h = let same : y ≡ x = cc in subst P same h
ok_so (Err e) x P is h = absurd cc

pub ok_same : {A E : Type 0} (x y : A) → ◌≡◌ {A = Result A E} (Ok x) (Ok y) → x ≡ y
ok_same x y e = cc

pub put_joined : (j : Joint) (p q : Place) (x y a b made : Expression) → x ≡ a → y ≡ b → made ≡ joined_parts j p x q y → made ≡ joined_parts j p a q b
put_joined j p q x y a b made e f is = is ∙ (ap (λ t. joined_parts j p t q y) e ∙ ap (λ t. joined_parts j p a q t) f)

pub put_enclosed : (kind : Prefix) (p : Place) (x a made : Expression) → x ≡ a → made ≡ enclosed kind p x → made ≡ enclosed kind p a
put_enclosed kind p x a made e is = is ∙ ap (λ t. enclosed kind p t) e
