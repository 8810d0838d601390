use Rattle.std.proofs.Common.{◌≡◌, map}
use Rattle.steal.specs.declared.supply.Supply.{Supply}
use Rattle.steal.specs.parts.Rows.{thief_rows}
use Rattle.steal.specs.Supplies.{owners_of}
use Rattle.steal.proofs.supply.parted.Given as goal

abbrev pub invariant-loop-supply : goal.invariant-loop-supply
invariant-loop-supply l = record { owners : l.owners.items ≡ owners_of l.yielded; rows : thief_rows l.rows.items ≡ map (λ (s : Supply). s.thieves.items) l.yielded }
