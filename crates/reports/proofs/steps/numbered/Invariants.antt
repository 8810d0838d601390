use Rattle.std.proofs.Common.{◌≡◌, take}
use Rattle.semantics.specs.Configurations.{IsConfigurationOf}
use Rattle.semantics.specs.Machine.{opening, after_all}
use Rattle.reports.specs.Telling.{told_steps}
use Rattle.reports.proofs.steps.numbered.Given as goal

abbrev pub invariant-loop-step : goal.invariant-loop-step
invariant-loop-step l =
    record {
      of : IsConfigurationOf l.program l.state;
      now : l.state ≡ after_all (opening l.program) (take l.step-index l.steps);
      told : l.text.items ≡ told_steps l.program (opening l.program) (take l.step-index l.steps);
    }
