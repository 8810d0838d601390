use Rattle.clocks.specs.parts.Clocks.{AreSound}
use Rattle.knowledge.specs.Knowledge.{with_partners}
use Rattle.clocks.proofs.rows.known_in.Given as goal

abbrev pub invariant-loop-step : goal.invariant-loop-step
invariant-loop-step l = AreSound l.program (with_partners l.partners) l.columns l.asked l.known.rows.items l.known.told.items l.known.ordered.items
