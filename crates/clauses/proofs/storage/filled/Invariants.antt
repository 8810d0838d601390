use Rattle.std.proofs.Common.{◌≡◌, take}
use Rattle.clauses.proofs.storage.filled.Given as goal

abbrev pub invariant-loop-place : goal.invariant-loop-place
invariant-loop-place l = take l.place l.filled ≡ take l.place l.literals
