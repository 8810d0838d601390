use Rattle.waits.proofs.MissedParts as missed
use Rattle.waits.proofs.laws.missed_parts_are_the_only_ones.Goals as goal

pub returns : goal.returns
returns c = missed.missed_parts_are_the_only_ones
