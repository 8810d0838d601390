-- What is put together, unless memory runs out.
use Rattle.std.proofs.Common.{◌≡◌, true, List, Option, Some, None, ap, sym, subst, ◌∙◌, inl, inr}
use Rattle.spmd_text.specs.declared.fault.ParseReason.{ParseReason}
use Rattle.spmd_text.specs.declared.fault.ParseReason.TheVariants.{Memory}
use Rattle.spmd_text.specs.declared.parser.Parser.{Parser}
use Rattle.spmd_text.specs.declared.piece.Token.{Token}
use Rattle.spmd_text.specs.parts.Reading.{Finds, first_noted}
use Rattle.spmd_text.specs.parts.Parts.{Keeps, SyntaxPart, HasRead}
use Rattle.spmd_text.specs.parts.Statements.{MakesOrLacksMemory}
use Rattle.spmd_text.proofs.Going.{goes_failed, never_failed}
use Rattle.spmd_text.proofs.Parts.{found_as, keeps_of, keeps_on, keeps_same, sound_before, still_found}

pub made_goes : {old new : Parser} {Made : Type 0} → MakesOrLacksMemory old new Made → Keeps old new
made_goes {old} {new} (inl (same, made)) = keeps_same same
made_goes {old} {new} (inr e) = keeps_of (goes_failed old new Memory e)

pub made_sound : {old new : Parser} {Made : Type 0} → MakesOrLacksMemory old new Made → new.fault ≡ None → (new ≡ old) × Made
made_sound (inl both) sound = both
made_sound {old} {new} (inr e) sound = absurd (never_failed old new Memory e sound)

pub finds_made : {old new : Parser} {rest : List Token} {A Made : Type 0} → MakesOrLacksMemory old new Made → Finds old rest A → Finds new rest A
finds_made (inl (same, made)) found = still_found same found
finds_made {old} {new} {rest} {A} {Made} (inr e) (inl memory) = inl ((goes_failed old new Memory e).sticks Memory memory)
finds_made {old} {new} (inr e) (inr (there, a)) =
    inl (ap (λ (s : Parser). s.fault) e ∙ ap (λ (f : Option ParseReason). first_noted f Memory) there.sound)

-- what is made is another thing, too
pub made_as : {old new : Parser} {A B : Type 0} → (A → B) → MakesOrLacksMemory old new A → MakesOrLacksMemory old new B
made_as to (inl (same, a)) = inl (same, to a)
made_as to (inr e) = inr e

-- what was found is found still, where it is kept
pub kept_found : {X : Type 0} (Same : X → X → Type 0) {old new : Parser} {rest : List Token} {a b : X} (x : X) → MakesOrLacksMemory old new (b ≡ a) → Finds old rest (Same a x) → Finds new rest (Same b x)
kept_found {X} Same x (inl (same, is)) found = still_found same (found_as (subst (λ (y : X). Same y x) (sym is)) found)
kept_found Same x (inr e) (inl memory) = finds_made {Made = Unit {0}} (inr e) (inl memory)
kept_found Same x (inr e) (inr (there, same)) = inl (ap (λ (s : Parser). s.fault) e ∙ ap (λ (f : Option ParseReason). first_noted f Memory) there.sound)

-- what is read is kept
pub reads_kept : {X : Type 0} {part : SyntaxPart X} {old mid new : Parser} {a b : X} → HasRead part old mid a → MakesOrLacksMemory mid new (b ≡ a) → HasRead part old new b
reads_kept {X} {part} {old} {mid} {new} {a} {b} r makes = record {
  goes = keeps_on r.goes (made_goes makes);
  finds = λ x rest sound e may ends. kept_found part.Same x makes (r.finds x rest sound e may ends);
  stands = λ sound.
      let m = made_sound makes sound in
      ap (λ (y : X). part.behind y (Some old.rest.now)) m.1
      ∙ (r.stands (sound_before (made_goes makes) sound) ∙ ap (λ (s : Parser). Some s.rest.now) (sym m.0));
  may = λ sound. subst part.May (sym (made_sound makes sound).1) (r.may (sound_before (made_goes makes) sound));
}

-- what is read is what is put together of its parts
pub reads_made : {X Z : Type 0} {one : SyntaxPart X} {other : SyntaxPart Z} {old mid new : Parser} {a : X} {z : Z} {Made : Type 0}
    → ((w : Z) (rest : List Token) → old.fault ≡ None → other.May w → other.behind w (Some old.rest.now) ≡ Some rest → other.ends rest ≡ true
    → (x : X) × one.May x × (one.behind x (Some old.rest.now) ≡ Some rest) × (one.ends rest ≡ true) × other.Same z w)
    → (Made → (rest : List Token) → one.behind a (Some old.rest.now) ≡ Some rest → one.May a → (other.behind z (Some old.rest.now) ≡ Some rest) × other.May z)
    → HasRead one old mid a → MakesOrLacksMemory mid new Made → HasRead other old new z
reads_made {X} {Z} {one} {other} {old} {mid} {new} {a} {z} {Made} back so r makes = record {
  goes = keeps_on r.goes (made_goes makes);
  finds = λ w rest sound e may ends.
      let x = back w rest sound may e ends in
      finds_made makes (found_as (λ same. x.4) (r.finds x.0 rest sound x.2 x.1 x.3));
  stands = λ sound.
      let m = made_sound makes sound in
      let before = sound_before (made_goes makes) sound in
      (so m.1 mid.rest.now (r.stands before) (r.may before)).0 ∙ ap (λ (s : Parser). Some s.rest.now) (sym m.0);
  may = λ sound.
      let m = made_sound makes sound in
      let before = sound_before (made_goes makes) sound in
      (so m.1 mid.rest.now (r.stands before) (r.may before)).1;
}
