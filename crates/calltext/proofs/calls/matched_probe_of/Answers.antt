use Rattle.std.proofs.Common.{◌∷◌, List, ℕ, ap, refl, sym, ◌∙◌}
use Rattle.plaintext.proofs.FirstFaults.{heads}
use Rattle.calltext.specs.declared.call.CallLine.TheVariants.{MatchedProbe}
use Rattle.calltext.specs.parts.Verbs.{pattern_words}
use Rattle.calltext.proofs.calls.matched_probe_of.Goals as goal

pub returns-in_default : goal.returns-in_default
returns-in_default c h s t k name e =
    let split = c.in_ok-handle.ensures.some in
    c.in_default.ensures.none s t k (heads h c.in_ok-handle.handle (pattern_words s t k) _ (e ∙ sym split.1)).1

pub returns : goal.returns
returns c =
    let split = c.in_ok-handle.ensures.some in
    let p = c.in-Some.ensures.some in
    (MatchedProbe c.in_ok-handle.handle p.0 p.1 p.2, split.0, refl, ap (λ (ws : List (List ℕ)). c.in_ok-handle.handle ∷ ws) p.3 ∙ split.1, rw (p.4, p.5, p.6) refl)
