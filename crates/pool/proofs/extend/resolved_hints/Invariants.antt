use Rattle.std.proofs.Common.{◌≡◌, map, take}
use Rattle.pool.specs.parts.Batches.{capped_hint}
use Rattle.pool.proofs.extend.resolved_hints.Given as goal

abbrev pub invariant-loop-hint : goal.invariant-loop-hint
invariant-loop-hint l = l.numbers.items ≡ map (capped_hint l.base) (take l.hint-index l.hints)
