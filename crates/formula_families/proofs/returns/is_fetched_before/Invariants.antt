use Rattle.std.proofs.Common.{◌≡◌, ◌++◌, take}
use Rattle.std.specs.List.{flat_map}
use Rattle.formula_families.proofs.Fetches.{fetched_earlier}
use Rattle.formula_families.proofs.returns.is_fetched_before.Given as goal

abbrev pub invariant-loop-taker : goal.invariant-loop-taker
invariant-loop-taker l = l.clauses ≡ l.initial.clauses ++ flat_map (fetched_earlier l.source l.call l.send l.otherwise) (take l.taker-index l.takers)
