use Rattle.std.proofs.Common.{◌≡◌, take}
use Rattle.std.specs.List.{AllByRecursion}
use Rattle.spmd_program.proofs.program.of_rank.Given as goal

-- so many calls are of the rank
abbrev pub invariant-loop-placed : goal.invariant-loop-placed
invariant-loop-placed l = record {
  count : l.count ≡ l.placed-index;
  own : AllByRecursion (λ p. p.rank ≡ l.rank) (take l.count l.calls);
}
