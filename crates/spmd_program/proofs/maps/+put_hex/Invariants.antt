use Rattle.spmd_program.proofs.maps.+put_hex.Given as goal

abbrev pub decreases-put_hex : goal.decreases-put_hex
decreases-put_hex l = l.count
