-- Where statements stand, and parts that are checked or refused.
use Rattle.std.proofs.Common.{◌≡◌, ℕ, Bool, true, List, Some, None, ap, sym, subst, ◌∙◌, inl, inr}
use Rattle.std.specs.Global.{Vec}
use Rattle.spmd_text.specs.declared.fault.ParseReason.{ParseReason}
use Rattle.spmd_text.specs.declared.fault.ParseReason.TheVariants.{Memory}
use Rattle.spmd_text.specs.declared.parser.Parser.{Parser}
use Rattle.spmd_text.specs.declared.piece.Token.{Token}
use Rattle.spmd_text.specs.parts.Reading.{Finds, first_noted}
use Rattle.spmd_text.specs.parts.Parts.{Keeps, SyntaxPart, HasRead}
use Rattle.spmd_text.specs.parts.Statements.{scope_of}
use Rattle.spmd_text.specs.Statements.{Scope}
use Rattle.spmd_text.proofs.Going.{goes_failed, never_failed}
use Rattle.spmd_text.proofs.Parts.{keeps_of, keeps_on, sound_before, still_found}

pub scope_same : {old mid : Parser} → Keeps old mid → scope_of mid ≡ scope_of old
scope_same {old} {mid} goes =
    ap (λ (b : Bool). record { in_parameter = b; names = mid.names.now; parameters = mid.parameters.items; loops = mid.loops.items }) goes.in_parameter
    ∙ (ap (λ (n : List (Vec ℕ)). record { in_parameter = old.in_parameter; names = n; parameters = mid.parameters.items; loops = mid.loops.items }) goes.names
    ∙ (ap (λ (n : List ℕ). record { in_parameter = old.in_parameter; names = old.names.now; parameters = n; loops = mid.loops.items }) goes.parameters
    ∙ ap (λ (n : List ℕ). record { in_parameter = old.in_parameter; names = old.names.now; parameters = old.parameters.items; loops = n }) goes.loops))

pub on_scope : {X : Type 0} {old mid new : Parser} {a : X} (part : Scope → SyntaxPart X) → Keeps old mid
    → HasRead (part (scope_of mid)) mid new a → HasRead (part (scope_of old)) mid new a
on_scope {X} {old} {mid} {new} {a} part goes r = subst (λ (s : Scope). HasRead (part s) mid new a) (scope_same goes) r

-- a part of which some trees are refused
abbrev pub checked : {X : Type 0} → SyntaxPart X → (X → Type 0) → SyntaxPart X
checked part P = record { behind = part.behind; May = λ x. part.May x × P x; Same = part.Same; ends = part.ends }

pub reads_checked : {X : Type 0} {part : SyntaxPart X} {old mid new : Parser} {a : X} (P : X → Type 0) → HasRead part old mid a
    → ((x : X) → part.Same a x → P x → P a) → Keeps mid new → (new.fault ≡ None → (new ≡ mid) × P a) → (P a → new ≡ mid) → HasRead (checked part P) old new a
reads_checked {X} {part} {old} {mid} {new} {a} P r alike goes sound_is fits = record {
  goes = keeps_on r.goes goes;
  finds = finds;
  stands = λ sound.
      let same = (sound_is sound).0 in
      r.stands (ap (λ (s : Parser). s.fault) (sym same) ∙ sound) ∙ ap (λ (s : Parser). Some s.rest.now) (sym same);
  may = λ sound. (r.may (sound_before goes sound), (sound_is sound).1);
}
  where
    by_found : (x : X) (rest : List Token) → P x → Finds mid rest (part.Same a x) → Finds new rest (part.Same a x)
    by_found x rest may (inl memory) = inl (goes.sticks Memory memory)
    by_found x rest may (inr (there, same)) = still_found (fits (alike x same may)) (inr (there, same))

    finds : (x : X) (rest : List Token) → old.fault ≡ None → part.behind x (Some old.rest.now) ≡ Some rest → part.May x × P x → part.ends rest ≡ true
        → Finds new rest (part.Same a x)
    finds x rest sound e may ends = by_found x rest may.1 (r.finds x rest sound e may.0 ends)

-- what can't stand here is refused
pub refused_read : {X : Type 0} {part : SyntaxPart X} {old new : Parser} {a : X} (why : ParseReason) → new ≡ record old { fault = first_noted old.fault why }
    → ((x : X) (rest : List Token) → old.fault ≡ None → part.behind x (Some old.rest.now) ≡ Some rest → part.May x → part.ends rest ≡ true → ⊥)
    → HasRead part old new a
refused_read {X} {part} {old} {new} {a} why is never = record {
  goes = keeps_of (goes_failed old new why is);
  finds = λ x rest sound e may ends. absurd (never x rest sound e may ends);
  stands = λ sound. absurd (never_failed old new why is sound);
  may = λ sound. absurd (never_failed old new why is sound);
}

-- the same behind a part that was read
pub refused_behind : {X : Type 0} {part : SyntaxPart X} {old mid new : Parser} {a : X} (why : ParseReason) → Keeps old mid → new ≡ record mid { fault = first_noted mid.fault why }
    → ((x : X) → part.May x → ⊥) → HasRead part old new a
refused_behind {X} {part} {old} {mid} {new} {a} why goes is never = record {
  goes = keeps_on goes (keeps_of (goes_failed mid new why is));
  finds = λ x rest sound e may ends. absurd (never x may);
  stands = λ sound. absurd (never_failed mid new why is sound);
  may = λ sound. absurd (never_failed mid new why is sound);
}
