use Rattle.std.proofs.Common.{◌≡◌, map, take}
use Rattle.formula_tables.specs.Numbers.{fact_slot}
use Rattle.formula_tables.proofs.variables.fact_slots.Given as goal

abbrev pub invariant-loop-fact : goal.invariant-loop-fact
invariant-loop-fact l = l.slots.items ≡ map (fact_slot l.calls) (take l.fact-index l.facts)
