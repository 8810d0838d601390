use Rattle.std.proofs.Common.{◌≡◌, ◌∷◌, ◌++◌, [], List, ℕ, Bool, ap, refl, ◌∙◌, arith, map}
use Rattle.std.proofs.lemmas.Grind.{common_steps}
use Rattle.std.proofs.lemmas.List.{append-nil}
use Rattle.calltext.specs.declared.call.CallLine.TheVariants.{MatchedReceive}
use Rattle.calltext.specs.declared.verb.Verb.TheVariants as verb
use Rattle.calltext.specs.parts.Verbs.{request_words}
use Rattle.calltext.proofs.calls.matched_receive_of.Goals as goal

pub returns : goal.returns
returns c =
    let split = c.in_ok-request.ensures.some in
    let name = c.in_ok-handle.ensures.some in
    let one : c.in_ok-handle.handle ∷ [] ≡ map (λ w. w.now) c.in_ok-request.others.now = grind (arith, common_steps, name.0) in
    (MatchedReceive c.in_ok-request.request c.in_ok-handle.handle, (split.0, name.1), ap (λ (s : Bool). verb.MatchedReceive s) split.1, append-nil (request_words c.in_ok-request.request ++ c.in_ok-handle.handle ∷ []) ∙ ap (λ (ws : List (List ℕ)). request_words c.in_ok-request.request ++ ws) one ∙ split.2, refl)

pub returns-in_default : goal.returns-in_default
returns-in_default c = grind (arith, common_steps)
