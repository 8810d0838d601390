use Rattle.std.proofs.Common.{length}
use Rattle.spmd_program.proofs.settings.+digits_from.Given as goal

abbrev pub decreases-digits_from : goal.decreases-digits_from
decreases-digits_from l = length l.digits.now
