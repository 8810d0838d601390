use Rattle.std.proofs.Common.{◌≡◌, replicate}
use Rattle.std.specs.Prelude.{string_bytes}
use Rattle.session.proofs.by_phases.file_name.Given as goal

abbrev pub invariant-loop-missing : goal.invariant-loop-missing
invariant-loop-missing l = string_bytes l.name ≡ replicate l._missing 48
