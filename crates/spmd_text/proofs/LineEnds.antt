-- A line that leads anywhere ends with the end of a line, and not of the text.
use Rattle.std.proofs.Common.{◌≡◌, ◌⊎◌, Bool, true, false, ◌||◌, List, [], ◌∷◌, ◌++◌, refl, ap, sym, subst, ◌∙◌, inl, inr}
use Rattle.spmd_text.specs.declared.piece.Token.{Token}
use Rattle.spmd_text.specs.parts.Lines as lines
use Rattle.spmd_text.specs.parts.Lines.{IsTextEnd, Level, Runs, Steps, has_text_end}
use Rattle.spmd_text.proofs.Framing.{IsFull}
use Rattle.spmd_text.proofs.LineKinds.{none_leads, step_full}

one_more : (b whole first rest : Bool) → whole ≡ (first || rest) → (b || whole) ≡ ((b || first) || rest)
one_more true whole first rest e = refl
one_more false whole first rest e = e

text_end_append : (xs ys : List Token) → has_text_end (xs ++ ys) ≡ (has_text_end xs || has_text_end ys)
text_end_append [] ys = refl
text_end_append (t ∷ ts) ys = one_more (lines.is_text_end t.piece) (has_text_end (ts ++ ys)) (has_text_end ts) (has_text_end ys) (text_end_append ts ys)

pub end_before : (xs ys : List Token) → has_text_end xs ≡ false → has_text_end (xs ++ ys) ≡ has_text_end ys
end_before xs ys none = text_end_append xs ys ∙ ap (λ (b : Bool). b || has_text_end ys) none

-- the text ends behind nothing but the end of the text
step_ends : {levels : List Level} {line : List Token} {next : List Level} → Steps levels line next → (next ≡ []) ⊎ (has_text_end line ≡ false)
step_ends {levels} {line} {next} steps = by_form (step_full levels line next steps)
  where
    by_form : IsFull line ⊎ IsTextEnd levels line next → (next ≡ []) ⊎ (has_text_end line ≡ false)
    by_form (inl full) = inr full.inner
    by_form (inr h) = inl h.is

none_run : {level : Level} {outer next : List Level} {pieces : List Token} → next ≡ [] → Runs (level ∷ outer) next pieces → ⊥
none_run {level} {outer} e (lines.done same nothing) = let never : [] ≡ level ∷ outer = sym e ∙ same in cc
none_run e (lines.more one runs) = none_run (none_leads one.line one.next (subst (λ (ls : List Level). Steps ls one.line one.next) e one.steps)) runs

-- no text ends in lines that lead to where a line may stand
pub runs_end : {level : Level} {outer levels : List Level} {pieces : List Token} → Runs (level ∷ outer) levels pieces → has_text_end pieces ≡ false
runs_end (lines.done same nothing) = ap has_text_end nothing
runs_end {level} {outer} {levels} {pieces} (lines.more one runs) = by_line (step_ends one.steps) (runs_end runs)
  where
    by_line : (one.next ≡ []) ⊎ (has_text_end one.line ≡ false) → has_text_end one.rest ≡ false → has_text_end pieces ≡ false
    by_line (inl e) f = absurd (none_run e runs)
    by_line (inr e) f = ap has_text_end one.split ∙ (end_before one.line one.rest e ∙ f)
