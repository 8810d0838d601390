use Rattle.choices.specs.Weights.{AreWeighed}
use Rattle.choices.proofs.weighing.weigh_all.Given as goal

abbrev pub invariant-loop-choice : goal.invariant-loop-choice
invariant-loop-choice g l = AreWeighed l.text l.all.items
