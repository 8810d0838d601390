use Rattle.clocks.specs.parts.Clocks.{block_of}
use Rattle.clocks.specs.parts.Finders.{AreGroupedUpTo}
use Rattle.clocks.proofs.finders.Finders.new.Given as goal

abbrev pub invariant-loop-call : goal.invariant-loop-call
invariant-loop-call l = AreGroupedUpTo l.program (block_of l.names) l.call l.groups.items
