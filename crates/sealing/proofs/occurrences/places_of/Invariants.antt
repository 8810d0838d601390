use Rattle.std.specs.HashMap.{get}
use Rattle.sealing.specs.parts.Sides.{same_occurrence, ArePlaces}
use Rattle.sealing.proofs.occurrences.places_of.Given as goal

abbrev pub invariant-loop-place : goal.invariant-loop-place
invariant-loop-place l = ArePlaces l.occurrences l.place (get same_occurrence l.places)
