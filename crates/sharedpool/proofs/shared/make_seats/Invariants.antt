use Rattle.std.proofs.Common.{◌≡◌, All, [], length}
use Rattle.crossbeam_utils.specs.Seq.{cell_view}
use Rattle.sharedpool.specs.Views.{knower}
use Rattle.sharedpool.specs.Seats.{AreNumbered}
use Rattle.sharedpool.proofs.shared.make_seats.Given as goal

abbrev pub invariant-loop-worker : goal.invariant-loop-worker
invariant-loop-worker g l =
    record {
      of : l.keeper.table_id ≡ g.B.PoolName.table;
      knows : cell_view l.keeper ≡ knower l.worker [];
      count : length l.seats.items ≡ l.worker;
      numbered : AreNumbered l.seats.items;
      fresh : All (λ seat. seat.mine ≡ []) l.seats.items;
    }
