use Rattle.std.proofs.Common.{ℕ, ◌++◌, List, length, take}
use Rattle.std.specs.List.{flat_map}
use Rattle.formula.specs.Families.{events}
use Rattle.formula.specs.Orders.{places_in}
use Rattle.formula_families.specs.parts.Blocks.{AreMarks}
use Rattle.formula_families.proofs.used.mark_clause.Given as goal

abbrev pub invariant-loop-statement : goal.invariant-loop-statement
invariant-loop-statement l =
    (orders : List (ℕ × ℕ)) → AreMarks (length (events l.events)) orders l.initial.marks → AreMarks (length (events l.events)) (orders ++ flat_map (places_in l.events) (take l.statement-index l.clause)) l.marks
