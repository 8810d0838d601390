use Rattle.std.proofs.Common.{◌++◌, List, ℕ, Bool, ap, refl, ◌∙◌, rules}
use Rattle.calltext.specs.declared.call.CallLine.TheVariants.{Send}
use Rattle.calltext.specs.declared.verb.Verb.TheVariants as verb
use Rattle.calltext.specs.parts.Verbs.{request_words}
use Rattle.calltext.proofs.calls.send_of.Goals as goal

pub returns : goal.returns
returns c =
    let split = c.in_ok-request.ensures.some in
    let m = c.in-Some.ensures.some in
    (Send c.args.mode c.in_ok-request.request m.0 m.1 m.2, split.0, ap (λ (s : Bool). verb.Send c.args.mode s) split.1, ap (λ (ws : List (List ℕ)). request_words c.in_ok-request.request ++ ws) m.3 ∙ split.2, rw (m.4, m.5, m.6) refl)

pub returns-in_default : goal.returns-in_default
returns-in_default c = search rules
