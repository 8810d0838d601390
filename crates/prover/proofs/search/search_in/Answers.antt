use Rattle.std.proofs.Common.{◌∙◌, ap, map, subst, sym}
use Rattle.steal.specs.Supplies.{AreDealt, deques_of}
use Rattle.prover.proofs.Stations.{written_back}
use Rattle.prover.proofs.search.search_in.Goals as goal

pub end-requires : goal.end-requires
end-requires g c =
    let stations = c.in-Ok-stations.stations in
    subst AreDealt (sym (written_back (λ s. deques_of s.supply) stations.len c.work_all-are_noted.new.stations stations.items (sym stations.ok.0) (c.work_all-are_noted.ensures ∙ ap (map (λ s. deques_of s.supply)) c.as_mut_slice-places.ensures.value))) c.in-Ok-stations.ensures
