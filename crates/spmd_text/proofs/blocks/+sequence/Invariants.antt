use Rattle.spmd_text.proofs.blocks.+sequence.Given as goal

abbrev pub decreases-sequence : goal.decreases-sequence
decreases-sequence l = l.count
