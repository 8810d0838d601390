use Rattle.std.proofs.Common.{◌≡◌, ◌-◌, ◌++◌, length, vec_capacity}
use Rattle.crossbeam_deque.specs.Handles.{worker_flavor, worker_view}
use Rattle.steal.specs.parts.Hands.{hand}
use Rattle.steal.specs.Hands.{all_parts}
use Rattle.steal.proofs.tally.drained.Given as goal

-- what is left so far was taken behind all that was taken before
abbrev pub invariant-loop-cube : goal.invariant-loop-cube
invariant-loop-cube l =
    record {
      flavor : worker_flavor l.owner ≡ 0;
      knows : worker_view l.owner ≡ hand all_parts (worker_view l.initial.owner).pushed ((worker_view l.initial.owner).taken ++ l.left.items);
      capacity : vec_capacity l.left ≡ vec_capacity l.initial.left;
    }

abbrev pub decreases-loop-cube : goal.decreases-loop-cube
decreases-loop-cube l = vec_capacity l.left - length l.left.items
