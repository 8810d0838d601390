-- What inner functions promise one another, beside `specs/Seats.antt`.
use Rattle.std.specs.Prelude.{◌≡◌, ℕ, ◌+◌, ◌<◌, ◌≤◌, true, List, [], ◌∷◌, ◌++◌}
use Rattle.atomic_table.specs.Seated.{TableId}
use Rattle.atomic_table.specs.declared.shared.Seat.{Seat}
use Rattle.crossbeam_utils.specs.declared.atomic.seq_cell.Doing.{Doing}
use Rattle.crossbeam_utils.specs.Seq.{cell_view}
use Rattle.pool.specs.declared.entry.LoggedCall.{LoggedCall}
use Rattle.pool.specs.States.{PoolState, PoolWithHistory, IsSoundPool, IsLegal}
use Rattle.sharedpool.specs.declared.room.View.{View}
use Rattle.sharedpool.specs.parts.Leaves.{leavers}
use Rattle.sharedpool.specs.parts.Views.{taker, sitting}
use Rattle.sharedpool.specs.Views.{knower, items_of}

abbrev pub Token : Type 0
Token = Seat (List ℕ) (Doing (List ℕ) View)

-- what is under the lock: the pool, how many seats were made, and the items of all calls in order
pub record Shared : Type 0 where
  pub pool : PoolWithHistory
  pub workers : ℕ
  pub items : List LoggedCall

-- the pass is one of this cell, and its list is that of this worker
pub record IsSeat (table : TableId) (worker : ℕ) (pass : Token) : Type 0 where
  pub of : pass.table_id ≡ table
  pub free : pass.me.1 ≡ []
  pub knows : cell_view pass ≡ sitting worker (cell_view pass).mine

-- The keeper's items are the history of the pool, which goes from the opening pool to this one. A
-- place is kept for each worker that has not left
pub record IsLocked (table : TableId) (opening : PoolState) (pool : PoolWithHistory) (workers : ℕ) (keeper : Token) : Type 0 where
  pub of : keeper.table_id ≡ table
  pub knows : cell_view keeper ≡ knower workers (cell_view keeper).all
  pub some_worker : 1 ≤ workers
  pub sound : IsSoundPool opening
  pub legal : IsLegal opening (cell_view keeper).all pool
  pub places : workers ≤ pool.places + leavers workers (cell_view keeper).all

-- a keeper and the seat of the item's worker, both of this cell
pub record AreReady (table : TableId) (keeper seat : Token) (item : LoggedCall) : Type 0 where
  pub keeper_of : keeper.table_id ≡ table
  pub seat_of : seat.table_id ≡ table
  pub free : seat.me.1 ≡ []
  pub keeps : (cell_view keeper).keeps ≡ true
  pub sits : (cell_view seat).sits ≡ true
  pub worker : (cell_view seat).worker ≡ item.entry.worker

-- a keeper and a seat are as they were, and the seat's list is its worker's items
pub record AreMatched (keeper keeper_after seat seat_after : Token) : Type 0 where
  pub keeper_of : keeper_after.table_id ≡ keeper.table_id
  pub seat_of : seat_after.table_id ≡ seat.table_id
  pub free : seat_after.me.1 ≡ []
  pub all : cell_view keeper_after ≡ taker (cell_view keeper).workers (cell_view keeper).all (cell_view keeper).taken
  pub told : cell_view seat_after ≡ sitting (cell_view seat).worker (cell_view seat).mine
  pub mine : (cell_view seat).mine ≡ items_of (cell_view seat).worker (cell_view keeper).all
  pub below : (cell_view seat).worker < (cell_view keeper).workers

-- the item is added to the lists of a keeper and of a seat, which was its worker's items so far
pub record AreNoted (keeper keeper_after seat seat_after : Token) (item : LoggedCall) : Type 0 where
  pub keeper_of : keeper_after.table_id ≡ keeper.table_id
  pub seat_of : seat_after.table_id ≡ seat.table_id
  pub free : seat_after.me.1 ≡ []
  pub all : cell_view keeper_after ≡ taker (cell_view keeper).workers ((cell_view keeper).all ++ item ∷ []) (cell_view keeper).taken
  pub told : cell_view seat_after ≡ sitting (cell_view seat).worker ((cell_view seat).mine ++ item ∷ [])
  pub mine : (cell_view seat).mine ≡ items_of (cell_view seat).worker (cell_view keeper).all
