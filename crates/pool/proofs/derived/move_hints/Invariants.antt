use Rattle.std.proofs.Common.{◌≡◌, ◌++◌, drop, map, take}
use Rattle.pool.specs.parts.Batches.{capped_move}
use Rattle.pool.proofs.derived.move_hints.Given as goal

abbrev pub invariant-loop-number : goal.invariant-loop-number
invariant-loop-number l =
    take l.number-index l.numbers ++ map (capped_move l.first l.base) (drop l.number-index l.numbers) ≡ map (capped_move l.first l.base) l.fn.numbers
