-- Parts that are read one after another are read as one part.
use Rattle.std.proofs.Common.{◌≡◌, ℕ, Bool, true, arith, List, Option, Some, None, refl, ap, sym, subst, ◌∙◌, inl, inr}
use Rattle.std.specs.Global.{Vec}
use Rattle.std.proofs.lemmas.Option.{same_Some}
use Rattle.spmd_text.specs.declared.fault.ParseReason.{ParseReason}
use Rattle.spmd_text.specs.declared.fault.ParseReason.TheVariants.{Memory}
use Rattle.spmd_text.specs.declared.parser.Parser.{Parser}
use Rattle.spmd_text.specs.declared.piece.Token.{Token}
use Rattle.spmd_text.specs.Spelling.{Rest}
use Rattle.spmd_text.specs.parts.Reading.{Finds, Goes}
use Rattle.spmd_text.specs.parts.Parts.{Keeps, SyntaxPart, HasRead, then_part}

-- nothing stands behind nothing
abbrev pub IsStrict : {X : Type 0} → SyntaxPart X → Type 0
IsStrict {X} part = (x : X) → part.behind x None ≡ None

-- what one part asks of what comes behind it holds where the other one stands
abbrev pub Follows : {X Y : Type 0} → SyntaxPart X → SyntaxPart Y → Type 0
Follows {X} {Y} one other = (y : Y) (here rest : List Token) → other.May y → other.behind y (Some here) ≡ Some rest → other.ends rest ≡ true → one.ends here ≡ true

pub none_some : {A : Type 0} (x : A) → None ≡ Some x → ⊥
none_some x e = cc

pub keeps_of : {old new : Parser} → Goes old new → Keeps old new
keeps_of goes = record {
  names = ap (λ (s : Parser). s.names.now) goes.frame;
  in_parameter = ap (λ (s : Parser). s.in_parameter) goes.frame;
  parameters = ap (λ (s : Parser). s.parameters.items) goes.frame;
  loops = ap (λ (s : Parser). s.loops.items) goes.frame;
  shorter = goes.shorter;
  sticks = goes.sticks;
}

pub keeps_on : {old mid new : Parser} → Keeps old mid → Keeps mid new → Keeps old new
keeps_on f g = record {
  names = g.names ∙ f.names;
  in_parameter = g.in_parameter ∙ f.in_parameter;
  parameters = g.parameters ∙ f.parameters;
  loops = g.loops ∙ f.loops;
  shorter = omega (arith, f.shorter, g.shorter);
  sticks = λ why e. g.sticks why (f.sticks why e);
}

pub keeps_same : {old new : Parser} → new ≡ old → Keeps old new
keeps_same {old} {new} same =
    subst (λ (s : Parser). Keeps old s) (sym same)
    (record { names = refl; in_parameter = refl; parameters = refl; loops = refl; shorter = omega arith; sticks = λ why e. e })

-- no fault at the end: none before
pub sound_before : {old new : Parser} → Keeps old new → new.fault ≡ None → old.fault ≡ None
sound_before {old} {new} goes sound = by_fault old.fault refl
  where
    by_fault : (fault : Option ParseReason) → old.fault ≡ fault → old.fault ≡ None
    by_fault None e = e
    by_fault (Some why) e = absurd (none_some why (sym sound ∙ goes.sticks why e))

pub reads_then : {X Y : Type 0} {one : SyntaxPart X} {other : SyntaxPart Y} {old mid new : Parser} {a : X} {b : Y}
    → IsStrict other → Follows one other → HasRead one old mid a → HasRead other mid new b → HasRead (then_part one other) old new (a, b)
reads_then {X} {Y} {one} {other} {old} {mid} {new} {a} {b} strict follows r s = record {
  goes = keeps_on r.goes s.goes;
  finds = finds;
  stands = λ sound.
      let before : mid.fault ≡ None = sound_before s.goes sound in
      ap (λ (z : Rest). other.behind b z) (r.stands before) ∙ s.stands sound;
  may = λ sound. (r.may (sound_before s.goes sound), s.may sound);
}
  where
    second : (x : X) (y : Y) (here rest : List Token) → other.behind y (Some here) ≡ Some rest → other.May y → other.ends rest ≡ true
        → Finds mid here (one.Same a x) → Finds new rest (one.Same a x × other.Same b y)
    second x y here rest e may ends (inl memory) = inl (s.goes.sticks Memory memory)
    second x y here rest e may ends (inr (stands, same)) =
        with_same same (s.finds y rest stands.sound (ap (λ (z : List Token). other.behind y (Some z)) stands.left ∙ e) may ends)
      where
        with_same : one.Same a x → Finds new rest (other.Same b y) → Finds new rest (one.Same a x × other.Same b y)
        with_same first (inl memory) = inl memory
        with_same first (inr (there, so)) = inr (there, (first, so))

    by_middle : (x : X) (y : Y) (rest : List Token) → old.fault ≡ None → one.May x → other.May y → other.ends rest ≡ true
        → (middle : Rest) → one.behind x (Some old.rest.now) ≡ middle → other.behind y middle ≡ Some rest → Finds new rest (one.Same a x × other.Same b y)
    by_middle x y rest sound may_x may_y ends None e f = absurd (none_some rest (sym (strict y) ∙ f))
    by_middle x y rest sound may_x may_y ends (Some here) e f =
        second x y here rest f may_y ends (r.finds x here sound e may_x (follows y here rest may_y f ends))

    finds : (both : X × Y) (rest : List Token) → old.fault ≡ None → other.behind both.1 (one.behind both.0 (Some old.rest.now)) ≡ Some rest
        → one.May both.0 × other.May both.1 → other.ends rest ≡ true → Finds new rest (one.Same a both.0 × other.Same b both.1)
    finds (x, y) rest sound e (may_x, may_y) ends = by_middle x y rest sound may_x may_y ends (one.behind x (Some old.rest.now)) refl e

-- What is read as one part is read as another, where a tree of the other one that stands here is
-- one of the first.
pub record IsAs {X Z : Type 0} (one : SyntaxPart X) (other : SyntaxPart Z) (old : Parser) (a : X) (z : Z) : Type 0 where
  pub back : (w : Z) (rest : List Token) → old.fault ≡ None → other.May w → other.behind w (Some old.rest.now) ≡ Some rest → other.ends rest ≡ true
      → (x : X) × one.May x × (one.behind x (Some old.rest.now) ≡ Some rest) × (one.ends rest ≡ true) × (one.Same a x → other.Same z w)
  pub stands : (rest : List Token) → one.behind a (Some old.rest.now) ≡ Some rest → one.May a → other.behind z (Some old.rest.now) ≡ Some rest
  pub may : one.May a → other.May z

pub found_as : {A B : Type 0} {new : Parser} {rest : List Token} → (A → B) → Finds new rest A → Finds new rest B
found_as f (inl memory) = inl memory
found_as f (inr (there, a)) = inr (there, f a)

pub reads_as : {X Z : Type 0} {one : SyntaxPart X} {other : SyntaxPart Z} {old new : Parser} {a : X} {z : Z}
    → IsAs one other old a z → HasRead one old new a → HasRead other old new z
reads_as {X} {Z} {one} {other} {old} {new} {a} {z} same r = record {
  goes = r.goes;
  finds = λ w rest sound e may ends.
      let x = same.back w rest sound may e ends in
      found_as x.4 (r.finds x.0 rest sound x.2 x.1 x.3);
  stands = λ sound. same.stands new.rest.now (r.stands sound) (r.may sound);
  may = λ sound. same.may (r.may sound);
}

-- nothing is taken, since nothing of the part can stand here
pub none_read : {X : Type 0} {part : SyntaxPart (Option X)} {old new : Parser}
    → ((z : Rest) → part.behind None z ≡ z) → part.May None → part.Same None None → new ≡ old
    → ((x : X) (rest : List Token) → old.fault ≡ None → part.May (Some x) → part.behind (Some x) (Some old.rest.now) ≡ Some rest → ⊥) → HasRead part old new None
none_read {X} {part} {old} {new} nothing may alike same never = record {
  goes = keeps_same same;
  finds = finds;
  stands = λ sound. nothing (Some old.rest.now) ∙ ap (λ (s : Parser). Some s.rest.now) (sym same);
  may = λ sound. may;
}
  where
    finds : (w : Option X) (rest : List Token) → old.fault ≡ None → part.behind w (Some old.rest.now) ≡ Some rest → part.May w → part.ends rest ≡ true
        → Finds new rest (part.Same None w)
    finds None rest sound e m ends = inr (
      record {
        sound = ap (λ (s : Parser). s.fault) same ∙ sound;
        left = ap (λ (s : Parser). s.rest.now) same ∙ same_Some old.rest.now rest (sym (nothing (Some old.rest.now)) ∙ e);
      },
      alike,
    )
    finds (Some x) rest sound e m ends = absurd (never x rest sound m e)

-- what is the same before stays so
pub on_flag : {X : Type 0} {old mid new : Parser} {a : X} (part : Bool → SyntaxPart X) → Keeps old mid
    → HasRead (part mid.in_parameter) mid new a → HasRead (part old.in_parameter) mid new a
on_flag {X} {old} {mid} {new} {a} part goes r =
    subst (λ (b : Bool). HasRead (part b) mid new a) goes.in_parameter r

pub on_names : {X : Type 0} {old mid new : Parser} {a : X} (part : Bool → List (Vec ℕ) → SyntaxPart X) → Keeps old mid
    → HasRead (part mid.in_parameter mid.names.now) mid new a → HasRead (part old.in_parameter old.names.now) mid new a
on_names {X} {old} {mid} {new} {a} part goes r =
    subst (λ (b : Bool). HasRead (part b old.names.now) mid new a) goes.in_parameter
    (subst (λ (n : List (Vec ℕ)). HasRead (part mid.in_parameter n) mid new a) goes.names r)

-- what is refused before a part, where the part can't stand there
pub read_behind_refusal : {X : Type 0} {part : SyntaxPart X} {old mid new : Parser} {a : X}
    → Keeps old mid → (mid.fault ≡ None → mid ≡ old) → ((x : X) (rest : List Token) → part.behind x (Some old.rest.now) ≡ Some rest → mid ≡ old)
    → HasRead part mid new a → HasRead part old new a
read_behind_refusal {X} {part} {old} {mid} {new} {a} goes kept other r = record {
  goes = keeps_on goes r.goes;
  finds = λ x rest sound e may ends.
      let same = other x rest e in
      r.finds x rest (ap (λ (s : Parser). s.fault) same ∙ sound) (ap (λ (s : Parser). part.behind x (Some s.rest.now)) same ∙ e) may ends;
  stands = λ sound.
      ap (λ (s : Parser). part.behind a (Some s.rest.now)) (sym (kept (sound_before r.goes sound))) ∙ r.stands sound;
  may = r.may;
}

-- the same part, where less may come behind it
abbrev pub ended : {X : Type 0} → SyntaxPart X → (List Token → Bool) → SyntaxPart X
ended part ends = record { behind = part.behind; May = part.May; Same = part.Same; ends = ends }

pub read_ended : {X : Type 0} {part : SyntaxPart X} {old new : Parser} {a : X} (ends : List Token → Bool)
    → ((rest : List Token) → ends rest ≡ true → part.ends rest ≡ true) → HasRead part old new a → HasRead (ended part ends) old new a
read_ended {X} {part} {old} {new} {a} ends enough r = record {
  goes = r.goes;
  finds = λ x rest sound e may f. r.finds x rest sound e may (enough rest f);
  stands = r.stands;
  may = r.may;
}

-- what was found is found still, where nothing has changed
pub still_found : {old new : Parser} {rest : List Token} {A : Type 0} → new ≡ old → Finds old rest A → Finds new rest A
still_found same (inl memory) = inl (ap (λ (s : Parser). s.fault) same ∙ memory)
still_found same (inr (there, a)) =
    inr (record { sound = ap (λ (s : Parser). s.fault) same ∙ there.sound; left = ap (λ (s : Parser). s.rest.now) same ∙ there.left }, a)
