use Rattle.std.proofs.Common.{◌≡◌, ◌-◌, [], All, length}
use Rattle.crossbeam_deque.specs.Handles.{view, stealer_deque, worker_deque, worker_flavor, worker_view}
use Rattle.steal.specs.parts.Hands.{hand}
use Rattle.steal.specs.Hands.{all_parts}
use Rattle.steal.proofs.deque.CubeDeque.make.Given as goal

abbrev pub invariant-loop : goal.invariant-loop
invariant-loop l =
    record {
      flavor : worker_flavor l.owner ≡ 0;
      count : length l.seats.items ≡ l.counter;
      knows : worker_view l.owner ≡ hand (all_parts - l.counter) [] [];
      fresh : All (λ seat. (stealer_deque seat.thief ≡ worker_deque l.owner) × (view seat.pass ≡ hand 1 [] [])) l.seats.items;
    }
