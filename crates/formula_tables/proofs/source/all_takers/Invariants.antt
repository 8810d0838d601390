use Rattle.std.proofs.Common.{◌≡◌, map}
use Rattle.std.specs.List.{range_with_len}
use Rattle.candidates.specs.Pairs.{takers_of}
use Rattle.formula_tables.proofs.source.all_takers.Given as goal

abbrev pub invariant-loop-call : goal.invariant-loop-call
invariant-loop-call l = map (λ row. row.items) l.rows.items ≡ map (takers_of l.program) (range_with_len 0 l.call)
