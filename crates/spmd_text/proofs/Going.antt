-- The reader goes on, step by step.
use Rattle.std.proofs.Common.{◌≡◌, ◌⊎◌, inl, inr, List, Option, Some, None, refl, ap, sym, subst, ◌∙◌, arith}
use Rattle.spmd_text.specs.declared.fault.ParseReason.{ParseReason}
use Rattle.spmd_text.specs.declared.fault.ParseReason.TheVariants.{Memory}
use Rattle.spmd_text.specs.declared.parser.Parser.{Parser}
use Rattle.spmd_text.specs.declared.piece.Token.{Token}
use Rattle.spmd_text.specs.parts.Reading.{first_noted, Goes, Sticks, StandsBefore, Finds}

pub goes_nowhere : (s : Parser) → Goes s s
goes_nowhere s = record { frame = refl; shorter = omega arith; sticks = λ why e. e }

pub goes_on : (a b c : Parser) → Goes a b → Goes b c → Goes a c
goes_on a b c f g = record {
  frame = g.frame ∙ ap (λ (s : Parser). record s { rest = c.rest; fault = c.fault }) f.frame;
  shorter = omega (arith, f.shorter, g.shorter);
  sticks = λ why e. g.sticks why (f.sticks why e);
}

pub noted_sticks : (fault : Option ParseReason) (reason why : ParseReason) → fault ≡ Some why → first_noted fault reason ≡ Some why
noted_sticks None reason why e = absurd cc
noted_sticks (Some first) reason why e = e

pub goes_failed : (old new : Parser) (reason : ParseReason) → new ≡ record old { fault = first_noted old.fault reason } → Goes old new
goes_failed old new reason e =
    subst (λ (s : Parser). Goes old s) (sym e)
    (record { frame = refl; shorter = omega arith; sticks = λ why f. noted_sticks old.fault reason why f })

-- the value of a parameter goes on being read
pub same_kind : (old new : Parser) → Goes old new → new.in_parameter ≡ old.in_parameter
same_kind old new g = ap (λ (s : Parser). s.in_parameter) g.frame

-- nothing changes what stands
pub stands_same : (old new : Parser) (rest : List Token) → new ≡ old → StandsBefore old rest → StandsBefore new rest
stands_same old new rest e s = subst (λ (t : Parser). StandsBefore t rest) (sym e) s

-- a part was found, and then what follows it
pub found_then : (s t : Parser) (here rest : List Token) (P Q : Type 0)
    → Finds s here P → Sticks s t → (StandsBefore s here → P → Finds t rest Q) → Finds t rest Q
found_then s t here rest P Q (inl e) sticks then = inl (sticks Memory e)
found_then s t here rest P Q (inr f) sticks then = then f.0 f.1

-- memory ran out before, or something becomes of what was read so far
pub so_far : (s t : Parser) (P Q : Type 0) → Sticks s t → (s.fault ≡ Some Memory) ⊎ P → (P → (t.fault ≡ Some Memory) ⊎ Q) → (t.fault ≡ Some Memory) ⊎ Q
so_far s t P Q sticks (inl memory) go = inl (sticks Memory memory)
so_far s t P Q sticks (inr p) go = go p

pub failed_or : (s t : Parser) (rest : List Token) (P Q : Type 0) → Sticks s t → (s.fault ≡ Some Memory) ⊎ P → (P → ⊥) → Finds t rest Q
failed_or s t rest P Q sticks (inl memory) never = inl (sticks Memory memory)
failed_or s t rest P Q sticks (inr p) never = absurd (never p)

pub ended_or : (s : Parser) (rest : List Token) (P Q : Type 0) → (s.fault ≡ Some Memory) ⊎ P → (P → StandsBefore s rest × Q) → Finds s rest Q
ended_or s rest P Q (inl memory) go = inl memory
ended_or s rest P Q (inr p) go = inr (go p)

pub sound_or : (old new : Option ParseReason) → ((why : ParseReason) → old ≡ Some why → new ≡ Some why) → new ≡ None → old ≡ None
sound_or None new sticks is = refl
sound_or (Some why) new sticks is = let never : None ≡ Some why = sym is ∙ sticks why refl in absurd cc

-- where nothing is wrong, nothing was wrong before
pub sound_before : (s t : Parser) → Goes s t → t.fault ≡ None → s.fault ≡ None
sound_before s t g is = sound_or s.fault t.fault g.sticks is

pub noted_never : (fault : Option ParseReason) (reason : ParseReason) → first_noted fault reason ≡ None → ⊥
noted_never None reason e = cc
noted_never (Some why) reason e = cc

-- a fault that was noted is there
pub never_failed : (old new : Parser) (reason : ParseReason) → new ≡ record old { fault = first_noted old.fault reason } → new.fault ≡ None → ⊥
never_failed old new reason e sound = noted_never old.fault reason (sym (ap (λ (s : Parser). s.fault) e) ∙ sound)
