use Rattle.std.proofs.Common.{◌≡◌}
use Rattle.semantics.specs.Machine.{is_buffered}
use Rattle.choices.proofs.Replayed.{HasTaken}
use Rattle.choices.proofs.otherwise.end_of.Given as goal

abbrev pub invariant-loop-step : goal.invariant-loop-step
invariant-loop-step l = record {
  taken : HasTaken l.program l.steps l.step-index l.state;
  buffered : l.buffered ≡ is_buffered l.state l.call;
}
