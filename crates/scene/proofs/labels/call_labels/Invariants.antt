use Rattle.std.proofs.Common.{◌≡◌, map}
use Rattle.scene.specs.Labels.{labels}
use Rattle.scene.proofs.labels.call_labels.Given as goal

abbrev pub invariant-loop-place : goal.invariant-loop-place
invariant-loop-place l = l.labels.items ≡ labels (map (λ x. x.now) l.lines.items) l.numbers.items l.program.calls l.place
