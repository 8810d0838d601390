use Rattle.std.proofs.Common.{◌++◌, List, ℕ, Bool, ap, refl, ◌∙◌}
use Rattle.calltext.specs.declared.call.CallLine.TheVariants.{Receive}
use Rattle.calltext.specs.declared.verb.Verb.TheVariants as verb
use Rattle.calltext.specs.parts.Verbs.{request_words, pattern_words}
use Rattle.calltext.proofs.CallReads.{others_are}
use Rattle.calltext.proofs.calls.receive_of.Goals as goal

pub returns-in_default : goal.returns-in_default
returns-in_default c r s t k names started e =
    let split = c.in_ok-request.ensures.some in
    c.in_default.ensures.none s t k (others_are r c.in_ok-request.request c.args.started (pattern_words s t k) _ _ started split.1 e split.2)

pub returns : goal.returns
returns c =
    let split = c.in_ok-request.ensures.some in
    let p = c.in-Some.ensures.some in
    (Receive c.in_ok-request.request p.0 p.1 p.2, split.0, ap (λ (s : Bool). verb.Receive s) split.1, ap (λ (ws : List (List ℕ)). request_words c.in_ok-request.request ++ ws) p.3 ∙ split.2, rw (p.4, p.5, p.6) refl)
