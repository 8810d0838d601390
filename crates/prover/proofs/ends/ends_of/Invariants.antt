use Rattle.std.proofs.Common.{◌<◌, ◌||◌, IsTrue}
use Rattle.prover.specs.Ends.{AreEndsOf}
use Rattle.prover.proofs.ends.ends_of.Given as goal

abbrev pub invariant-loop-turn : goal.invariant-loop-turn
invariant-loop-turn l = record { holds : AreEndsOf l.program l.ends; some : 0 < l.turn → IsTrue (l.ends.stuck || l.ends.finished) }
