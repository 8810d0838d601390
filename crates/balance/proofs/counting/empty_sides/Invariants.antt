use Rattle.std.proofs.Common.{◌≡◌, ℕ, [], Some, length, slice_get}
use Rattle.balance.specs.declared.counting.Imbalance.{Imbalance}
use Rattle.balance.proofs.counting.empty_sides.Given as goal

abbrev pub invariant-loop : goal.invariant-loop
invariant-loop l =
    record {
      size : length l.table.items ≡ l.counter;
      each : (number : ℕ) (sides : Imbalance) → slice_get l.table.items number ≡ Some sides → (sides.sends.items ≡ []) × (sides.takers.items ≡ []);
    }
