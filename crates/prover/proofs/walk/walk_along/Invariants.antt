use Rattle.std.proofs.Common.{◌≡◌, length}
use Rattle.semantics.specs.Configurations.{IsConfigurationOf}
use Rattle.semantics.specs.Machine.{IsRun, opening, after_all}
use Rattle.prover.proofs.walk.walk_along.Given as goal

abbrev pub invariant-loop-turn : goal.invariant-loop-turn
invariant-loop-turn l =
    record {
      of : IsConfigurationOf l.program l.state;
      now : l.state ≡ after_all (opening l.program) l.steps.items;
      run : IsRun l.program (opening l.program) l.steps.items;
      size : length l.steps.items ≡ l.turn;
    }
