use Rattle.std.proofs.Common.{◌≡◌, ◌++◌, map}
use Rattle.std.specs.Vec.Iter.{into_iter_items}
use Rattle.prover.proofs.search.settle.Given as goal

abbrev pub invariant-loop-station : goal.invariant-loop-station
invariant-loop-station g l =
    record {
      all : l.yielded ++ into_iter_items l.station-iterator ≡ l.fn.stations.items;
      supplies : l.supplies.items ≡ map (λ s. s.supply) l.yielded;
    }
