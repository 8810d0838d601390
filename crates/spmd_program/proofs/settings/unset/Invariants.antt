use Rattle.std.proofs.Common.{◌≡◌}
use Rattle.std.specs.Prelude.{take}
use Rattle.spmd_program.specs.Settings.{unset}
use Rattle.spmd_program.proofs.settings.unset.Given as goal

abbrev pub invariant-loop-name : goal.invariant-loop-name
invariant-loop-name l = l.values.items ≡ unset (take l._name-index l.names)
