use Rattle.scene.proofs.Replayed.{HasTaken}
use Rattle.scene.proofs.choices.choices_of.Given as goal

abbrev pub invariant-loop-place : goal.invariant-loop-place
invariant-loop-place l = HasTaken l.program l.steps l.place l.state
