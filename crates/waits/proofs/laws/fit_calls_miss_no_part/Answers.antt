use Rattle.waits.proofs.MissedParts as missed
use Rattle.waits.proofs.laws.fit_calls_miss_no_part.Goals as goal

pub returns : goal.returns
returns c = missed.fit_calls_miss_no_part
