use Rattle.std.proofs.Common.{◌≡◌, map}
use Rattle.std.specs.List.{range_with_len}
use Rattle.cubes.specs.Cubes.{branching_rank_of}
use Rattle.cubes.proofs.order.ranks.Given as goal

abbrev pub invariant-loop-number : goal.invariant-loop-number
invariant-loop-number l = l.ranks.items ≡ map (branching_rank_of l.pairs) (range_with_len 0 l.number)
