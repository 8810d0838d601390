use Rattle.sharedpool.proofs.Growth.{seats_lose_nothing}
use Rattle.sharedpool.proofs.laws.nothing_seen_is_lost.Goals as goal

pub returns : goal.returns
returns c = seats_lose_nothing
