use Rattle.std.proofs.Common.{ℕ, ◌++◌, List, length, take}
use Rattle.std.specs.List.{flat_map}
use Rattle.formula.specs.Families.{events}
use Rattle.formula_families.specs.parts.Blocks.{AreMarks, orders_of_family}
use Rattle.formula_families.proofs.used.mark_families.Given as goal

abbrev pub invariant-loop-family : goal.invariant-loop-family
invariant-loop-family l =
    (orders : List (ℕ × ℕ)) → AreMarks (length (events l.source)) orders l.initial.marks → AreMarks (length (events l.source)) (orders ++ flat_map (orders_of_family l.source) (take l.family-index l.families)) l.marks
