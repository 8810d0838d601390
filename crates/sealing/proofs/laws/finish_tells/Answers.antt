use Rattle.sealing.proofs.Finishing.{finish_tells}
use Rattle.sealing.proofs.laws.finish_tells.Goals as goal

pub returns : goal.returns
returns c = finish_tells
