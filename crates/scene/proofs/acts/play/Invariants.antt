use Rattle.std.proofs.Common.{◌≡◌, take}
use Rattle.semantics.specs.Machine.{opening}
use Rattle.scene.specs.Labels.{acts_from}
use Rattle.scene.proofs.Replayed.{HasTaken}
use Rattle.scene.proofs.acts.play.Given as goal

abbrev pub invariant-loop-step : goal.invariant-loop-step
invariant-loop-step l = record { taken : HasTaken l.program l.steps l.step-index l.end; told : l.acts.items ≡ acts_from (opening l.program) (take l.step-index l.steps) }
