use Rattle.std.proofs.Common.{length}
use Rattle.spmd_program.proofs.lines.+put_further.Given as goal

abbrev pub decreases-put_further : goal.decreases-put_further
decreases-put_further l = length l.rest.now
