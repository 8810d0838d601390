use Rattle.std.proofs.Common.{◌∙◌, sym, ap}
use Rattle.steal.specs.Supplies.{deques_of}
use Rattle.prover.proofs.Stations.{same_map}
use Rattle.prover.proofs.search.work_all.Goals as goal

pub returns : goal.returns
returns g c =
    same_map (λ s. deques_of s.supply) c.args.stations.now c.for_each_mut.new.s (search depth 8)
    (λ i d lt. let at = (c.for_each_mut.ensures i d lt).1 in ap (λ s. deques_of s.supply) (sym at.left) ∙ (at.call ∙ ap (λ s. deques_of s.supply) at.argument_is))
