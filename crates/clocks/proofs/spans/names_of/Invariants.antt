-- The calls so far are named.
use Rattle.clocks.specs.parts.Spans.{AreNamedUpTo}
use Rattle.clocks.proofs.spans.names_of.Given as goal

abbrev pub invariant-loop-place : goal.invariant-loop-place
invariant-loop-place l = AreNamedUpTo l.program l.state l.place l.names.items l.growing
