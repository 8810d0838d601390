use Rattle.std.proofs.Common.{length}
use Rattle.spmd_text.proofs.labels.+are_letters.Given as goal

abbrev pub decreases-are_letters : goal.decreases-are_letters
decreases-are_letters l = length l.word.now
