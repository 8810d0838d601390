use Rattle.spmd_program.proofs.Written.{AreBegun}
use Rattle.spmd_program.proofs.lines.put_lines.Given as goal

abbrev pub invariant-loop-place : goal.invariant-loop-place
invariant-loop-place l = AreBegun l.names l.calls l.place l.fn.out.items l.out.items
