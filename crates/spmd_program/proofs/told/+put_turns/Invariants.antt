use Rattle.spmd_program.proofs.told.+put_turns.Given as goal

abbrev pub decreases-put_turns : goal.decreases-put_turns
decreases-put_turns l = l.most
