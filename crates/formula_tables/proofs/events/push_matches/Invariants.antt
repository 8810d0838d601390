use Rattle.std.proofs.Common.{◌≡◌, ◌+◌, ◌++◌, map}
use Rattle.std.specs.List.{filter, range_with_len}
use Rattle.formula.specs.Families.{finds_message}
use Rattle.formula_tables.proofs.events.push_matches.Given as goal

abbrev pub invariant-loop-taker : goal.invariant-loop-taker
invariant-loop-taker l =
    l.slots.items ≡ l.initial.slots.items ++ map (λ t. l.calls + t) (filter (finds_message l.program) (range_with_len 0 l.taker))
