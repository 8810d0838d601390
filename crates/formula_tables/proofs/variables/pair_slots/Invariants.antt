use Rattle.std.proofs.Common.{◌≡◌, map, take}
use Rattle.formula_tables.specs.Numbers.{pair_slot}
use Rattle.formula_tables.proofs.variables.pair_slots.Given as goal

abbrev pub invariant-loop-pair : goal.invariant-loop-pair
invariant-loop-pair l = l.slots.items ≡ map (λ pair. pair_slot l.most pair.0 pair.1) (take l.pair-index l.pairs)
