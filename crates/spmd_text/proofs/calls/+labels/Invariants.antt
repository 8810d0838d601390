use Rattle.spmd_text.proofs.calls.+labels.Given as goal

abbrev pub decreases-labels : goal.decreases-labels
decreases-labels l = l.most
