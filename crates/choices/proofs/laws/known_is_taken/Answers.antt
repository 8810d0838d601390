use Rattle.choices.proofs.Known as known
use Rattle.choices.proofs.laws.known_is_taken.Goals as goal

pub returns : goal.returns
returns c = known.known_is_taken
