use Rattle.std.proofs.Common.{◌≡◌, ℕ, ◌+◌, ◌-◌, ◌++◌, List, map}
use Rattle.std.specs.List.{filter, range_with_len}
use Rattle.formula.specs.Orders.{is_among}
use Rattle.formula_families.specs.parts.Blocks.{AreMarks}
use Rattle.formula_families.proofs.used.push_row.Given as goal

abbrev pub invariant-loop-second : goal.invariant-loop-second
invariant-loop-second l =
    (orders : List (ℕ × ℕ)) → AreMarks l.most orders l.marks → l.used.items ≡ l.initial.used.items ++ filter (is_among orders) (map (λ f. (l.first, f)) (range_with_len (l.first + 1) (l.second - (l.first + 1))))
