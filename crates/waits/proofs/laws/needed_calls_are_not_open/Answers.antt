use Rattle.waits.proofs.NeededCalls as needed
use Rattle.waits.proofs.laws.needed_calls_are_not_open.Goals as goal

pub returns : goal.returns
returns c = needed.needed_calls_are_not_open
