use Rattle.balance.proofs.Matching.{missing_sends_stick}
use Rattle.balance.proofs.laws.missing_sends_stick.Goals as goal

pub returns : goal.returns
returns c = missing_sends_stick
