use Rattle.std.proofs.Common.{◌≡◌, ◌+◌, drop}
use Rattle.trimming.specs.Needed.{name_earlier}
use Rattle.trimming.proofs.names.name_earlier.Given as goal

abbrev pub invariant-loop-place : goal.invariant-loop-place
invariant-loop-place l = name_earlier (l.clauses + l.place) (drop l.place l.lines) ≡ name_earlier l.clauses l.lines
