-- The page of `unroll`, by its status.
use Rattle.std.proofs.Common.{◌≡◌, ◌∙◌, arith, ap, inl, inr, sym, subst, refl, ℕ, List, ◌++◌, Bool, true, false, Some, None, Option, get_or}
use Rattle.calltext.specs.Grammar.{ProgramText, text_of}
use Rattle.spmd_program.specs.Unrolling.{IsRefusal}
use Rattle.session.specs.Lines.{deadlock_line}
use Rattle.session.specs.Unrolling.{IsHandedOver, IsProgramPage, IsUnrolledPage, refused_text}
use Rattle.session.proofs.DeadlockLines.{PageTells}
use Rattle.session.proofs.Deadlocks.{all_are}

-- the text of a program begins with an r
program_begins : (p : ProgramText) → get_or (text_of p) 0 0 ≡ 114
program_begins p = refl

-- a text that begins with another letter isn't the line of a deadlock
other_letter : (text : List ℕ) (letter : ℕ) → get_or text 0 0 ≡ letter → (letter ≡ 100 → ⊥) → (letter ≡ 123 → ⊥) → (as_json : Bool) (rest : List ℕ) → text ≡ deadlock_line as_json ++ rest → ⊥
other_letter text letter is plain object false rest e = plain (sym is ∙ ap (λ (t : List ℕ). get_or t 0 0) e)
other_letter text letter is plain object true rest e = object (sym is ∙ ap (λ (t : List ℕ). get_or t 0 0) e)

handed_letter : (out : Option (List ℕ)) (p : ProgramText) (program text : List ℕ) → program ≡ text_of p → IsProgramPage out program text → (as_json : Bool) (rest : List ℕ) → text ≡ deadlock_line as_json ++ rest → ⊥
handed_letter None p program text is page =
    other_letter text 114 (ap (λ (t : List ℕ). get_or t 0 0) (page ∙ is) ∙ program_begins p) (λ e. omega (arith, e)) (λ e. omega (arith, e))
handed_letter (Some file) p program text is page =
    other_letter text 117 (ap (λ (t : List ℕ). get_or t 0 0) page) (λ e. omega (arith, e)) (λ e. omega (arith, e))

-- the page of `unroll` tells no deadlock
pub unrolled_untold : (tells : Bool) (before after : List ℕ → Option (List ℕ)) (p : List ℕ) (ranks : ℕ) (settings : List (List ℕ)) (barriers : Bool) (out map : Option (List ℕ)) (text : List ℕ) (status : ℕ)
    → IsUnrolledPage tells before after p ranks settings barriers out map text status → PageTells text status → ⊥
unrolled_untold tells before after p ranks settings barriers out map text status (source, all, inl (over, zero)) (inl one) = omega (arith, zero, one)
unrolled_untold tells before after p ranks settings barriers out map text status (source, all, inl (over, zero)) (inr (as_json, rest, e)) =
    handed_letter out _ over.program text over.unrolled.made.is_program.text over.page as_json rest e
unrolled_untold tells before after p ranks settings barriers out map text status (source, all, inr (told, refusal, same, is, three)) (inl one) = omega (arith, three, one)
unrolled_untold tells before after p ranks settings barriers out map text status (source, all, inr (told, refusal, same, is, three)) (inr (as_json, rest, e)) =
    other_letter text 114 (ap (λ (t : List ℕ). get_or t 0 0) is) (λ e. omega (arith, e)) (λ e. omega (arith, e)) as_json rest e

-- with the status 0 the text was unrolled
pub handed_over : (tells : Bool) (before after : List ℕ → Option (List ℕ)) (p : List ℕ) (ranks : ℕ) (settings : List (List ℕ)) (barriers : Bool) (out map : Option (List ℕ)) (source text : List ℕ)
    → IsUnrolledPage tells before after p ranks settings barriers out map text 0 → before p ≡ Some source → IsHandedOver tells before after p ranks settings barriers out map source text
handed_over tells before after p ranks settings barriers out map source text (given, all, inl (over, zero)) held =
    subst (λ (s : List ℕ). IsHandedOver tells before after p ranks settings barriers out map s text) (all_are (before p) given source all held) over
handed_over tells before after p ranks settings barriers out map source text (given, all, inr (told, refusal, same, is, three)) held = absurd (omega (arith, three))

-- and with the status 3 it was refused
pub refusal_told : (tells : Bool) (before after : List ℕ → Option (List ℕ)) (p : List ℕ) (ranks : ℕ) (settings : List (List ℕ)) (barriers : Bool) (out map : Option (List ℕ)) (source text : List ℕ)
    → IsUnrolledPage tells before after p ranks settings barriers out map text 3 → before p ≡ Some source
    → (told : List ℕ) × IsRefusal p source ranks settings barriers told × (after ≡ before) × (text ≡ refused_text told)
refusal_told tells before after p ranks settings barriers out map source text (given, all, inl (over, zero)) held = absurd (omega (arith, zero))
refusal_told tells before after p ranks settings barriers out map source text (given, all, inr (told, refusal, same, is, three)) held =
    (told, subst (λ (s : List ℕ). IsRefusal p s ranks settings barriers told) (all_are (before p) given source all held) refusal, same, is)

-- it has no other status
pub own_status : (tells : Bool) (before after : List ℕ → Option (List ℕ)) (p : List ℕ) (ranks : ℕ) (settings : List (List ℕ)) (barriers : Bool) (out map : Option (List ℕ)) (text : List ℕ) (status : ℕ)
    → IsUnrolledPage tells before after p ranks settings barriers out map text status → (status ≡ 1 → ⊥) × (status ≡ 2 → ⊥)
own_status tells before after p ranks settings barriers out map text status (source, all, inl (over, zero)) = ((λ e. omega (arith, zero, e)), (λ e. omega (arith, zero, e)))
own_status tells before after p ranks settings barriers out map text status (source, all, inr (told, refusal, same, is, three)) = ((λ e. omega (arith, three, e)), (λ e. omega (arith, three, e)))
