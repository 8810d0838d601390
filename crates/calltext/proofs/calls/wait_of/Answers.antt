use Rattle.std.proofs.Common.{◌≡◌, ◌∷◌, [], map, refl, arith}
use Rattle.std.proofs.lemmas.Grind.{common_steps}
use Rattle.calltext.specs.declared.call.CallLine.TheVariants.{Wait}
use Rattle.calltext.proofs.calls.wait_of.Goals as goal

pub returns : goal.returns
returns c =
    let name = c.in_ok-request.ensures.some in
    let one : c.in_ok-request.request ∷ [] ≡ map (λ w. w.now) c.args.words.now = grind (arith, common_steps, name.0) in
    (Wait c.in_ok-request.request, name.1, refl, one, refl)
