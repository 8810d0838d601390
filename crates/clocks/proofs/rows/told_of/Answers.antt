use Rattle.clocks.proofs.rows.told_of.Goals as goal

pub returns : goal.returns
returns c = record { rounds = c.in_ok-known.ensures.rounds; told = c.in_ok-known.ensures.told }
