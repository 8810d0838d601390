use Rattle.choices.specs.parts.Weights.{AreChoicesOf}
use Rattle.choices.proofs.weighing.at_places.Given as goal

abbrev pub invariant-loop-choice : goal.invariant-loop-choice
invariant-loop-choice l = AreChoicesOf l.program l.found.items
