use Rattle.choices.specs.parts.Pins.{IsPastLines}
use Rattle.choices.proofs.pinning.around.Given as goal

abbrev pub invariant-loop-turn : goal.invariant-loop-turn
invariant-loop-turn l = IsPastLines l.text l._turn l.rest
