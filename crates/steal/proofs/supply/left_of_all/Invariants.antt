use Rattle.std.proofs.Common.{◌≡◌, ◌++◌, ℕ, ◌==◌, All, length, vec_len}
use Rattle.std.specs.List.{flat_map}
use Rattle.steal.specs.declared.seats.OwnerSeat.{OwnerSeat}
use Rattle.steal.specs.parts.Rows.{thief_rows}
use Rattle.steal.specs.Seats.{popped, pushed, stolen_by, thief_count}
use Rattle.steal.specs.Supplies.{AreThieves}
use Rattle.steal.proofs.Settling.{IsEven}
use Rattle.steal.proofs.supply.left_of_all.Given as goal

abbrev pub invariant-loop-owner : goal.invariant-loop-owner
invariant-loop-owner l =
    let taken = flat_map popped l.fn.owners.items ++ flat_map stolen_by (thief_rows l.fn.rows.items) in
    record {
      rows : All (AreThieves l.owners.items) (thief_rows l.rows.items);
      counts : All (λ (owner : OwnerSeat). thief_count owner ≡ length l.rows.items) l.owners.items;
      even : (cube : ℕ) → IsEven (λ x. x == cube) (flat_map pushed l.fn.owners.items) taken l.owners.items (thief_rows l.rows.items) l.left.items;
    }

abbrev pub decreases-loop-owner : goal.decreases-loop-owner
decreases-loop-owner l = vec_len l.owners
