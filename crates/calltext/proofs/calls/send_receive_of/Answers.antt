use Rattle.std.proofs.Common.{◌≡◌, ◌∷◌, map, refl, arith}
use Rattle.std.proofs.lemmas.Grind.{common_steps}
use Rattle.plaintext.specs.Plain.{numeral}
use Rattle.calltext.specs.declared.call.CallLine.TheVariants.{SendReceive}
use Rattle.calltext.specs.parts.Verbs.{pattern_words}
use Rattle.calltext.proofs.calls.send_receive_of.Goals as goal

pub returns-in_default-pattern_of : goal.returns-in_default-pattern_of
returns-in_default-pattern_of c d t s u k e = c.in_default-pattern_of.ensures.none s u k (grind (arith, common_steps, e))

pub returns : goal.returns
returns c =
    let d = c.in_ok-destination.ensures.some in
    let t = c.in_ok-send_tag.ensures.some in
    let p = c.in-Some.ensures.some in
    let words : numeral d.0 ∷ numeral t.0 ∷ pattern_words p.0 p.1 p.2 ≡ map (λ w. w.now) c.args.words.now = grind (arith, common_steps, d.1, t.1, p.3) in
    (SendReceive d.0 t.0 p.0 p.1 p.2, tt, refl, words, rw (d.2, t.2, p.4, p.5, p.6) refl)
