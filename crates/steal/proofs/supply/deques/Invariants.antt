use Rattle.std.proofs.Common.{◌≡◌, All, length}
use Rattle.std.specs.List.{AllZip}
use Rattle.steal.specs.parts.Rows.{thief_rows, AreFreshThieves, IsFreshOwner}
use Rattle.steal.proofs.supply.deques.Given as goal

abbrev pub invariant-loop : goal.invariant-loop
invariant-loop l =
    record {
      size : length l.owners.items ≡ l.counter;
      owners : All (IsFreshOwner l.count) l.owners.items;
      rows : AllZip (AreFreshThieves l.count) l.owners.items (thief_rows l.rows.items);
    }
