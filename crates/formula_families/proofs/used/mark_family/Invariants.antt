use Rattle.std.proofs.Common.{ℕ, ◌++◌, List, length, take}
use Rattle.std.specs.List.{flat_map}
use Rattle.formula.specs.Families.{events}
use Rattle.formula_families.specs.parts.Blocks.{blocks_of, AreMarks, orders_of}
use Rattle.formula_families.proofs.used.mark_family.Given as goal

abbrev pub invariant-loop-place : goal.invariant-loop-place
invariant-loop-place l =
    (orders : List (ℕ × ℕ)) → AreMarks (length (events l.source)) orders l.initial.marks → AreMarks (length (events l.source)) (orders ++ flat_map (orders_of l.source) (take l.place (blocks_of l.source l.family))) l.marks
