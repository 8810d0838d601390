use Rattle.std.proofs.Common.{length}
use Rattle.spmd_program.proofs.names.+are_letters_or_digits.Given as goal

abbrev pub decreases-are_letters_or_digits : goal.decreases-are_letters_or_digits
decreases-are_letters_or_digits l = length l.letters.now
