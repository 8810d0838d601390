use Rattle.std.proofs.Common.{◌≡◌, take}
use Rattle.pool.proofs.assembly.lines_of.Given as goal

abbrev pub invariant-loop-place : goal.invariant-loop-place
invariant-loop-place l = l.lines.items ≡ take l.place l.log
