use Rattle.std.proofs.Common.{◌≡◌, ℕ, List, map}
use Rattle.std.specs.List.{filter, flat_map, range_with_len}
use Rattle.formula.specs.Orders.{between, is_among}
use Rattle.formula_families.specs.parts.Blocks.{AreMarks}
use Rattle.formula_families.proofs.used.marked.Given as goal

abbrev pub invariant-loop-first : goal.invariant-loop-first
invariant-loop-first l =
    (orders : List (ℕ × ℕ)) → AreMarks l.most orders l.marks → l.used.items ≡ filter (is_among orders) (flat_map (λ e. map (λ f. (e, f)) (between e l.most)) (range_with_len 0 l.first))
