use Rattle.std.proofs.Common.{◌≡◌, ◌<◌, ℕ, All, length}
use Rattle.crossbeam_utils.specs.Seq.{cell_view}
use Rattle.sharedpool.specs.parts.Views.{taker}
use Rattle.sharedpool.specs.Views.{items_of, AllBelow, IsNoneOf, AreDifferent}
use Rattle.sharedpool.specs.Seats.{workers_of}
use Rattle.sharedpool.proofs.shared.take_all_back.Given as goal

abbrev pub invariant-loop-seat : goal.invariant-loop-seat
invariant-loop-seat g l =
    record {
      of : l.keeper.table_id ≡ g.B.PoolName.table;
      knows : cell_view l.keeper ≡ taker (cell_view l.initial.keeper).workers (cell_view l.initial.keeper).all (cell_view l.keeper).taken;
      mine : All (λ seat. seat.mine ≡ items_of seat.worker (cell_view l.initial.keeper).all) l.yielded;
      below : All (λ seat. seat.worker < (cell_view l.initial.keeper).workers) l.yielded;
      different : AreDifferent (workers_of l.yielded);
      taken : (worker : ℕ) → IsNoneOf (cell_view l.keeper).taken worker → IsNoneOf (workers_of l.yielded) worker;
      others : 0 < length l.yielded → AllBelow (cell_view l.initial.keeper).workers (cell_view l.initial.keeper).all;
    }
