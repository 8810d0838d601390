use Rattle.interning.proofs.Places as places
use Rattle.interning.proofs.laws.last_below_is_last.Goals as goal

pub returns : goal.returns
returns c = places.last_below_is_last
