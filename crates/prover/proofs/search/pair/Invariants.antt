use Rattle.std.proofs.Common.{◌≡◌, ◌+◌, ◌++◌, map, length}
use Rattle.std.specs.Vec.Iter.{into_iter_items}
use Rattle.prover.proofs.search.pair.Given as goal

abbrev pub invariant-loop-supply : goal.invariant-loop-supply
invariant-loop-supply g l =
    record {
      stations : map (λ s. s.supply) l.stations.items ≡ l.yielded;
      all : l.yielded ++ into_iter_items l.supply-iterator ≡ l.fn.supplies.items;
      seats : length (into_iter_items l.seats) + length l.yielded ≡ length l.fn.seats.items;
    }
