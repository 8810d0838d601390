use Rattle.steal.specs.Supplies.{IsSameSupply}
use Rattle.test_workers.proofs.deques.turns.Given as goal

abbrev pub invariant-loop-cube : goal.invariant-loop-cube
invariant-loop-cube l = IsSameSupply l.initial.supply l.supply

abbrev pub invariant-loop : goal.invariant-loop
invariant-loop l = IsSameSupply l.fn.supply l.supply
