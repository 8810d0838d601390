use Rattle.choices.proofs.Replayed.{HasTaken}
use Rattle.choices.specs.parts.Weights.{AreChoicesOf}
use Rattle.choices.proofs.finding.put_choices.Given as goal

abbrev pub invariant-loop-place : goal.invariant-loop-place
invariant-loop-place l = record {
  taken : HasTaken l.program l.steps l.place l.state;
  found : AreChoicesOf l.program l.fn.found.items → AreChoicesOf l.program l.found.items;
}
