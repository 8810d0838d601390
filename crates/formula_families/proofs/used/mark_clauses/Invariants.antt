use Rattle.std.proofs.Common.{ℕ, ◌++◌, List, length, take}
use Rattle.std.specs.List.{flat_map}
use Rattle.formula.specs.Families.{events}
use Rattle.formula.specs.Orders.{places_in}
use Rattle.formula_families.specs.parts.Blocks.{AreMarks}
use Rattle.formula_families.proofs.used.mark_clauses.Given as goal

abbrev pub invariant-loop-place : goal.invariant-loop-place
invariant-loop-place l =
    (orders : List (ℕ × ℕ)) → AreMarks (length (events l.events)) orders l.initial.marks → AreMarks (length (events l.events)) (orders ++ flat_map (flat_map (places_in l.events)) (take l.place l.clauses)) l.marks
