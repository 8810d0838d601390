use Rattle.clocks.specs.parts.Finders.{AreEmptyGroups}
use Rattle.clocks.proofs.finders.empty_groups.Given as goal

abbrev pub invariant-loop : goal.invariant-loop
invariant-loop l = AreEmptyGroups l.groups.items
