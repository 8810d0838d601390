use Rattle.std.proofs.Common.{length}
use Rattle.spmd_text.proofs.labels.+ends_in_index.Given as goal

abbrev pub decreases-ends_in_index : goal.decreases-ends_in_index
decreases-ends_in_index l = length l.word.now
