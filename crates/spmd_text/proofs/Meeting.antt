-- Parts that are met one after another are met as one part, whatever else the reader keeps.
use Rattle.std.proofs.Common.{◌≡◌, ℕ, true, arith, length, List, [], ◌∷◌, ◌++◌, Option, Some, None, refl, ap, sym, subst, ◌∙◌, inl, inr}
use Rattle.std.proofs.lemmas.List.{append-nil, append_assoc}
use Rattle.spmd_text.specs.declared.fault.ParseReason.{ParseReason}
use Rattle.spmd_text.specs.declared.fault.ParseReason.TheVariants.{Memory}
use Rattle.spmd_text.specs.declared.parser.Parser.{Parser}
use Rattle.spmd_text.specs.declared.piece.Token.{Token}
use Rattle.spmd_text.specs.parts.Reading.{Finds, Sticks, first_noted}
use Rattle.spmd_text.specs.Spelling.{Rest}
use Rattle.spmd_text.specs.parts.Parts.{Keeps, SyntaxPart, HasRead, then_part}
use Rattle.spmd_text.specs.parts.Programs.{AddsParameter, GrowsByParameters, Meets}
use Rattle.spmd_text.proofs.Going.{found_then, noted_never, noted_sticks, sound_or}
use Rattle.spmd_text.specs.parts.Statements.{MakesOrLacksMemory}
use Rattle.spmd_text.proofs.Made.{kept_found, made_goes, made_sound}
use Rattle.spmd_text.proofs.NoStar.{left_before}
use Rattle.spmd_text.proofs.Parts.{Follows, IsAs, IsStrict, found_as, sound_before}

pub sound_by : (old new : Parser) → Sticks old new → new.fault ≡ None → old.fault ≡ None
sound_by old new sticks sound = sound_or old.fault new.fault sticks sound

pub meets_of : {X : Type 0} {part : SyntaxPart X} {old new : Parser} {a : X} → HasRead part old new a → Meets part old new a
meets_of r = record { finds = r.finds; stands = r.stands; may = r.may }

pub meets_then : {X Y : Type 0} {one : SyntaxPart X} {other : SyntaxPart Y} {old mid new : Parser} {a : X} {b : Y}
    → IsStrict other → Follows one other → Meets one old mid a → Sticks mid new → Meets other mid new b → Meets (then_part one other) old new (a, b)
meets_then {X} {Y} {one} {other} {old} {mid} {new} {a} {b} strict follows r sticks s = record {
  finds = finds;
  stands = λ sound. ap (λ (z : Rest). other.behind b z) (r.stands (sound_by mid new sticks sound)) ∙ s.stands sound;
  may = λ sound. (r.may (sound_by mid new sticks sound), s.may sound);
}
  where
    finds : (both : X × Y) (rest : List Token) → old.fault ≡ None → other.behind both.1 (one.behind both.0 (Some old.rest.now)) ≡ Some rest
        → one.May both.0 × other.May both.1 → other.ends rest ≡ true → Finds new rest (one.Same a both.0 × other.Same b both.1)
    finds (x, y) rest sound e (may_x, may_y) ends =
        let between = left_before (other.behind y) (strict y) (one.behind x (Some old.rest.now)) rest e in
        let f = ap (other.behind y) (sym between.1) ∙ e in
        found_then mid new between.0 rest (one.Same a x) (one.Same a x × other.Same b y) (r.finds x between.0 sound between.1 may_x (follows y between.0 rest may_y f ends)) sticks
        (λ there same. found_as (λ so. (same, so)) (s.finds y rest there.sound (ap (λ (z : List Token). other.behind y (Some z)) there.left ∙ f) may_y ends))

pub meets_as : {X Z : Type 0} {one : SyntaxPart X} {other : SyntaxPart Z} {old new : Parser} {a : X} {z : Z}
    → IsAs one other old a z → Meets one old new a → Meets other old new z
meets_as {X} {Z} {one} {other} {old} {new} {a} {z} same r = record {
  finds = λ w rest sound e may ends.
      let x = same.back w rest sound may e ends in
      found_as x.4 (r.finds x.0 rest sound x.2 x.1 x.3);
  stands = λ sound. same.stands new.rest.now (r.stands sound) (r.may sound);
  may = λ sound. same.may (r.may sound);
}

-- what is met is kept
pub meets_kept : {X : Type 0} {part : SyntaxPart X} {old mid new : Parser} {a b : X} → Meets part old mid a → MakesOrLacksMemory mid new (b ≡ a) → Meets part old new b
meets_kept {X} {part} {old} {mid} {new} {a} {b} r makes = record {
  finds = λ x rest sound e may ends. kept_found part.Same x makes (r.finds x rest sound e may ends);
  stands = λ sound.
      let m = made_sound makes sound in
      ap (λ (y : X). part.behind y (Some old.rest.now)) m.1
      ∙ (r.stands (sound_before (made_goes makes) sound) ∙ ap (λ (s : Parser). Some s.rest.now) (sym m.0));
  may = λ sound. subst part.May (sym (made_sound makes sound).1) (r.may (sound_before (made_goes makes) sound));
}

-- ---- names that are added

pub adds_grows : (old new : Parser) (name : ℕ) → AddsParameter old new name → GrowsByParameters old new (name ∷ [])
adds_grows old new name (inl (frame, items)) = record {
  names_same = ap (λ (p : Parser). p.names.now) frame;
  in_parameter = ap (λ (p : Parser). p.in_parameter) frame;
  parameters = λ sound. items;
  loops = ap (λ (p : Parser). p.loops.items) frame;
  shorter = omega (arith, ap (λ (p : Parser). length p.rest.now) frame);
  sticks = λ why e. ap (λ (p : Parser). p.fault) frame ∙ e;
}
adds_grows old new name (inr frame) = record {
  names_same = ap (λ (p : Parser). p.names.now) frame;
  in_parameter = ap (λ (p : Parser). p.in_parameter) frame;
  parameters = λ sound. absurd (noted_never old.fault Memory (sym (ap (λ (p : Parser). p.fault) frame) ∙ sound));
  loops = ap (λ (p : Parser). p.loops.items) frame;
  shorter = omega (arith, ap (λ (p : Parser). length p.rest.now) frame);
  sticks = λ why e. ap (λ (p : Parser). p.fault) frame ∙ noted_sticks old.fault Memory why e;
}

-- what was found is found still, unless memory ran out
pub adds_found : (old new : Parser) (name : ℕ) {rest : List Token} {A : Type 0} → AddsParameter old new name → Finds old rest A → Finds new rest A
adds_found old new name adds (inl memory) = inl ((adds_grows old new name adds).sticks Memory memory)
adds_found old new name (inl (frame, items)) (inr (there, a)) =
    inr (record { sound = ap (λ (p : Parser). p.fault) frame ∙ there.sound; left = ap (λ (p : Parser). p.rest.now) frame ∙ there.left }, a)
adds_found old new name (inr frame) (inr (there, a)) =
    inl (ap (λ (p : Parser). p.fault) frame ∙ ap (λ (f : Option ParseReason). first_noted f Memory) there.sound)

adds_rest : (old new : Parser) (name : ℕ) → AddsParameter old new name → new.rest.now ≡ old.rest.now
adds_rest old new name (inl (frame, items)) = ap (λ (p : Parser). p.rest.now) frame
adds_rest old new name (inr frame) = ap (λ (p : Parser). p.rest.now) frame

pub meets_added : {X : Type 0} {part : SyntaxPart X} {old : Parser} (mid new : Parser) {a : X} (name : ℕ) → Meets part old mid a → AddsParameter mid new name → Meets part old new a
meets_added {X} {part} {old} mid new {a} name r adds = record {
  finds = λ x rest sound e may ends. adds_found mid new name adds (r.finds x rest sound e may ends);
  stands = λ sound. r.stands (sound_by mid new (adds_grows mid new name adds).sticks sound) ∙ ap Some (sym (adds_rest mid new name adds));
  may = λ sound. r.may (sound_by mid new (adds_grows mid new name adds).sticks sound);
}

pub grows_same : {old : Parser} → GrowsByParameters old old []
grows_same {old} = record {
  names_same = refl;
  in_parameter = refl;
  parameters = λ sound. sym (append-nil old.parameters.items);
  loops = refl;
  shorter = omega arith;
  sticks = λ why e. e;
}

pub renamed : {old new : Parser} {xs ys : List ℕ} → GrowsByParameters old new xs → (new.fault ≡ None → xs ≡ ys) → GrowsByParameters old new ys
renamed {old} {new} {xs} {ys} g same = record {
  names_same = g.names_same;
  in_parameter = g.in_parameter;
  parameters = λ sound. g.parameters sound ∙ ap (λ (l : List ℕ). old.parameters.items ++ l) (same sound);
  loops = g.loops;
  shorter = g.shorter;
  sticks = g.sticks;
}

-- names are added, and then others
pub grows_on : {old mid new : Parser} {xs ys : List ℕ} → GrowsByParameters old mid xs → GrowsByParameters mid new ys → GrowsByParameters old new (xs ++ ys)
grows_on {old} {mid} {new} {xs} {ys} f g = record {
  names_same = g.names_same ∙ f.names_same;
  in_parameter = g.in_parameter ∙ f.in_parameter;
  parameters = λ sound.
      g.parameters sound
      ∙ (ap (λ (l : List ℕ). l ++ ys) (f.parameters (sound_by mid new g.sticks sound)) ∙ append_assoc old.parameters.items xs ys);
  loops = g.loops ∙ f.loops;
  shorter = omega (arith, f.shorter, g.shorter);
  sticks = λ why e. g.sticks why (f.sticks why e);
}

pub kept_then_grown : {old mid new : Parser} {xs : List ℕ} → Keeps old mid → GrowsByParameters mid new xs → GrowsByParameters old new xs
kept_then_grown {old} {mid} {new} {xs} f g = record {
  names_same = g.names_same ∙ f.names;
  in_parameter = g.in_parameter ∙ f.in_parameter;
  parameters = λ sound. g.parameters sound ∙ ap (λ (l : List ℕ). l ++ xs) f.parameters;
  loops = g.loops ∙ f.loops;
  shorter = omega (arith, f.shorter, g.shorter);
  sticks = λ why e. g.sticks why (f.sticks why e);
}

pub grown_then_kept : {old mid new : Parser} {xs : List ℕ} → GrowsByParameters old mid xs → Keeps mid new → GrowsByParameters old new xs
grown_then_kept {old} {mid} {new} {xs} f g = record {
  names_same = g.names ∙ f.names_same;
  in_parameter = g.in_parameter ∙ f.in_parameter;
  parameters = λ sound. g.parameters ∙ f.parameters (sound_by mid new g.sticks sound);
  loops = g.loops ∙ f.loops;
  shorter = omega (arith, f.shorter, g.shorter);
  sticks = λ why e. g.sticks why (f.sticks why e);
}
