use Rattle.std.proofs.Common.{◌≡◌, ◌+◌, length}
use Rattle.semantics.specs.Configurations.{IsConfigurationOf}
use Rattle.semantics.specs.Machine.{IsRun, opening, after_all}
use Rattle.leastrun.specs.LeastBuffered.{BuffersSo}
use Rattle.leastrun.specs.parts.Waiting.{IsKept, IsFresh}
use Rattle.leastrun.proofs.walk.go_on.Given as goal

abbrev pub invariant-loop-turn : goal.invariant-loop-turn
invariant-loop-turn l =
    record {
      of : IsConfigurationOf l.program l.state;
      now : l.state ≡ after_all (opening l.program) l.steps.items;
      run : IsRun l.program (opening l.program) l.steps.items;
      size : length l.fn.steps.items + l.turn ≡ length l.steps.items;
      kept : IsKept l.program l.fresh l.state l.tables;
      fresh : IsFresh l.program l.state l.fresh;
      choice : BuffersSo l.buffering l.program l.fn.steps.items → BuffersSo l.buffering l.program l.steps.items;
    }
