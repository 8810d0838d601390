use Rattle.balance.proofs.Closing.{channels_are_closed}
use Rattle.balance.proofs.laws.channels_are_closed.Goals as goal

pub returns : goal.returns
returns c = channels_are_closed
