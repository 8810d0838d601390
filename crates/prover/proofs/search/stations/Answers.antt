use Rattle.std.proofs.Common.{◌∙◌, map, subst, sym, ap}
use Rattle.std.proofs.lemmas.Result.{IfOk-weaker}
use Rattle.std.proofs.lemmas.Simd.{map-map}
use Rattle.steal.specs.Supplies.{AreDealt, deques_of}
use Rattle.steal.proofs.Deques.{dealt_deques}
use Rattle.prover.proofs.Stations.{written_back}
use Rattle.prover.proofs.search.stations.Goals as goal

pub returns : goal.returns
returns g c =
    let dealt = c.in_ok-supplies.supplies in
    IfOk-weaker c.pair.result _ _
    (λ stations supplies.
    subst AreDealt
    (sym (written_back deques_of dealt.len c.fill.new.supplies dealt.items (sym dealt.ok.0) (c.fill.ensures ∙ ap (map deques_of) c.as_mut_slice.ensures.value)) ∙ (ap (map deques_of) (sym supplies) ∙ map-map deques_of (λ s. s.supply) stations.items))
    (dealt_deques dealt.items c.in_ok-supplies.ensures.supplies))
    c.pair.ensures
