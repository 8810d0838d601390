use Rattle.waits.proofs.NeededCalls as needed
use Rattle.waits.proofs.laws.fit_calls_are_not_both_open.Goals as goal

pub returns : goal.returns
returns c = needed.fit_calls_are_not_both_open
