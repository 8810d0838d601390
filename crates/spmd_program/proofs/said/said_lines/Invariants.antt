use Rattle.std.proofs.Common.{◌≡◌, ◌++◌, length, map}
use Rattle.spmd_program.specs.Maps.{said_lines}
use Rattle.spmd_program.proofs.said.said_lines.Given as goal

-- the lines so far, and those that are left
abbrev pub invariant-loop-line : goal.invariant-loop-line
invariant-loop-line l = map (λ line. line.items) l.lines.items ++ said_lines l.rest ≡ said_lines l.text

abbrev pub decreases-loop-line : goal.decreases-loop-line
decreases-loop-line l = length l.rest
