use Rattle.std.proofs.Common.{◌<◌}
use Rattle.prover.specs.parts.Searches.{HasRunThatFinishes}
use Rattle.prover.proofs.explore.stuck_walk.Given as goal

abbrev pub invariant-loop-turn : goal.invariant-loop-turn
invariant-loop-turn l = 0 < l.turn → HasRunThatFinishes l.initial.program
