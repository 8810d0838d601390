use Rattle.std.proofs.Common.{◌≡◌, ◌+◌, ◌++◌, length}
use Rattle.crossbeam_deque.specs.Handles.{worker_deque, worker_flavor, worker_view}
use Rattle.steal.specs.parts.Hands.{hand}
use Rattle.steal.specs.Seats.{stolen_by}
use Rattle.steal.proofs.tally.joined.Given as goal

-- the owner knows what the thieves so far have stolen
abbrev pub invariant-loop-seat : goal.invariant-loop-seat
invariant-loop-seat l =
    (goal.iterator-loop-seat).can_next l.seat-iterator ×
    (goal.iterator-loop-seat).is_finite l.seat-iterator ×
    (worker_deque l.owner ≡ worker_deque l.initial.owner) ×
    (worker_flavor l.owner ≡ worker_flavor l.initial.owner) ×
    (worker_view l.owner ≡ hand ((worker_view l.initial.owner).parts + length l.yielded) (worker_view l.initial.owner).pushed ((worker_view l.initial.owner).taken ++ stolen_by l.yielded))
