use Rattle.std.proofs.Common.{◌≡◌, ◌∙◌, map, subst, sym, ap}
use Rattle.std.proofs.lemmas.Simd.{map-map}
use Rattle.steal.specs.Supplies.{AreDealt, deques_of}
use Rattle.steal.proofs.Deques.{dealt_supplies}
use Rattle.prover.proofs.Stations.{is_whole}
use Rattle.prover.proofs.search.settle.Goals as goal

pub settle_all-requires : goal.settle_all-requires
settle_all-requires g c =
    let whole : c.loop-station.yielded ≡ c.args.stations.items = is_whole c.loop-station.yielded c.loop-station.station-iterator.rest.items c.args.stations.items (sym c.loop-station.station-iterator.rest.ok.0 ∙ c.in-None.ensures.steps.0) c.loop-station.invariant.all in
    let supplies = c.loop-station.supplies.items in
    dealt_supplies supplies
    (subst AreDealt (sym (ap (map deques_of) c.loop-station.invariant.supplies ∙ (map-map deques_of (λ s. s.supply) c.loop-station.yielded ∙ ap (map (λ s. deques_of s.supply)) whole))) c.requires)
